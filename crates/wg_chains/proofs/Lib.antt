pub mod Closures
pub mod Reached
pub mod Squares
