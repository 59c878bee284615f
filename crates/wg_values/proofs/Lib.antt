pub mod Lists
pub mod MarkLoops
pub mod OneNumber
pub mod StructLoops
