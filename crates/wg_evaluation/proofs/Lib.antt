pub mod Calling
pub mod KindLayers
pub mod Sequences
pub mod Within
