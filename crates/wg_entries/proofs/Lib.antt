pub mod Arrivals
pub mod Placed
pub mod Taking
