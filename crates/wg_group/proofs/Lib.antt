pub mod Ending
pub mod Going
pub mod Growth
pub mod Layers
pub mod Rows
