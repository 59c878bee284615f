pub mod Launches
pub mod Tails
pub mod Verdicts
