pub mod Bags
pub mod Named
pub mod Slots
pub mod Taking
