pub mod Apart
pub mod Front
pub mod Stands
