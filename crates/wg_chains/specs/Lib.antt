pub mod Arrived
pub mod Rows
