pub mod Booleans
pub mod Depths
pub mod Empty
pub mod GoodShapes
pub mod Numbered
