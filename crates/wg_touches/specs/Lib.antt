pub mod Coalescing
pub mod Passing
