pub mod Entries
pub mod Opening
pub mod Stock
