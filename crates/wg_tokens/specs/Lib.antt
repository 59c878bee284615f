pub mod Characters
pub mod Classes
pub mod Cut
pub mod LexicalRules
pub mod Spelled
pub mod Spelling
