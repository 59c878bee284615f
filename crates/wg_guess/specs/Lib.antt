pub mod Guesses
pub mod Knowing
pub mod Logs
