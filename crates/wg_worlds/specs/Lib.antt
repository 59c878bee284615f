pub mod Endings
pub mod Kept
pub mod Lawful
pub mod Laws
pub mod Lists
pub mod Through
