pub mod Begun
pub mod Short
