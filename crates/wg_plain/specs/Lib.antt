pub mod Sizes
pub mod Named
pub mod Rests
pub mod Stepped
