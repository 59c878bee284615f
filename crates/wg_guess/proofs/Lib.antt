pub mod Places
pub mod Seeing
pub mod Truth
pub mod Words
