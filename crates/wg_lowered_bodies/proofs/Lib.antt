pub mod Stores
pub mod Targets
pub mod Assigning
pub mod Turning
pub mod Blocks
pub mod Statements
