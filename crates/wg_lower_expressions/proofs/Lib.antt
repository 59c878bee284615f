pub mod Bases
pub mod Layers
