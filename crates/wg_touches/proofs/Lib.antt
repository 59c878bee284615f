pub mod Coalesced
pub mod Passes
