pub mod Apart
pub mod Blocks
pub mod Records
pub mod Rings
pub mod Rows
pub mod Turns
pub mod Units
