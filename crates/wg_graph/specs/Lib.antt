pub mod Ground
pub mod Ones
