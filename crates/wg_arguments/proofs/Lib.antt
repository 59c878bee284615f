pub mod Counts
pub mod Gathered
