pub mod Flows
pub mod Reach
