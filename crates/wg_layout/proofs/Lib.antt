pub mod Capping
pub mod FieldWords
pub mod Ranges
