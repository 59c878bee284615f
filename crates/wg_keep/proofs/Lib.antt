pub mod Openings
pub mod Places
pub mod Rows
pub mod Stocks
