pub mod Groups
pub mod Slots
pub mod Lists
pub mod Keeping
pub mod Found
pub mod Loops
pub mod EntryBytes
