pub mod CodeLaws
pub mod Parts
pub mod Worlds
