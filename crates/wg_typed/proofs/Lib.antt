pub mod NamedValues
pub mod ConstChains
pub mod Spans
pub mod Earlier
pub mod Weighing
pub mod Conversions
