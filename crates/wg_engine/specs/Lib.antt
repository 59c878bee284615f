pub mod Calls
pub mod Effects
pub mod Ending
pub mod Inside
pub mod Serving
pub mod Tables
