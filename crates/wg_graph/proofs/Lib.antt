pub mod Fits
pub mod Fullness
pub mod Listings
pub mod Tables
pub mod Truths
