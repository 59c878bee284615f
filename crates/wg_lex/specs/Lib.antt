pub mod Faults
pub mod Fronts
pub mod Numerals
pub mod Positions
pub mod Scanning
