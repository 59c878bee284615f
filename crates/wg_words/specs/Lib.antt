pub mod Characters
pub mod Each
pub mod Maybe
pub mod Padding
pub mod Truth
pub mod Words
