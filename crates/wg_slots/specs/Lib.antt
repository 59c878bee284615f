pub mod Kept
pub mod Layout
pub mod Places
pub mod SlotsOf
