pub mod Basics
pub mod Lists
pub mod Sited
