mod Adding
mod Blocks
mod Built
mod Reaching
