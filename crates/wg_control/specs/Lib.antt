pub mod Loops
pub mod Silence
pub mod Simple
