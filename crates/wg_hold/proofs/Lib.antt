pub mod Bytes
pub mod Changes
pub mod Counting
pub mod Holding
pub mod Opens
pub mod Scans
pub mod Search
