pub mod PerWord
pub mod Pieces
