mod Calls
mod Front
mod Growth
mod Layers
mod Leaf
mod Rest
mod Sizes
