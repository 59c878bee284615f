pub mod Answering
pub mod Directions
pub mod TextEnds
