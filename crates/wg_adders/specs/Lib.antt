pub mod Adding
pub mod Doubling
