pub mod ClassSets
pub mod IsReading
pub mod Turns
