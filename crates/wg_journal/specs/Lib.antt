pub mod Names
pub mod Reading
pub mod Report
pub mod Texts
