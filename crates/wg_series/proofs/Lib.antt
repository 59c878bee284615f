pub mod Runs
pub mod ResultsFit
pub mod ComponentsFit
