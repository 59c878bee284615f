pub mod Branches
pub mod Calls
pub mod Levels
pub mod Measure
pub mod Vectors
