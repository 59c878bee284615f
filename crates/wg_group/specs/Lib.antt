pub mod Launching
pub mod Quieter
pub mod Running
