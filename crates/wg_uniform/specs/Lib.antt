pub mod OneValue
pub mod Parts
