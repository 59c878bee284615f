pub mod Found
pub mod Grids
pub mod Told
pub mod Leaving
pub mod Runs
pub mod Stepping
pub mod Words
