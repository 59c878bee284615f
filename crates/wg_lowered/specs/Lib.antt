pub mod Exprs
pub mod Fits
pub mod Holding
pub mod Where
