pub mod Branches
pub mod Loops
pub mod Numbered
pub mod Sequences
pub mod Words
