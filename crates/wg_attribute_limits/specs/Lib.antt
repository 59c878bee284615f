pub mod Beside
pub mod ItemNames
