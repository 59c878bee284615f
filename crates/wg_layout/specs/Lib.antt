pub mod FieldWords
pub mod Fields
pub mod Layouts
pub mod Sizes
