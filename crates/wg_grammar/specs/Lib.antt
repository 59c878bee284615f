pub mod Spans
pub mod Reading
pub mod Depths
pub mod Productions
pub mod TakesTokens
