pub mod Alike
pub mod Bounds
pub mod Calls
pub mod LaneAlike
pub mod Layers
pub mod NeverWrong
mod NotBuffers
mod NotControl
mod NotRecords
mod NotRegisters
mod NotShared
pub mod PartsAlike
