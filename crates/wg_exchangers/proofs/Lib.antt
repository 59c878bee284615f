pub mod Changing
pub mod GoodGraph
