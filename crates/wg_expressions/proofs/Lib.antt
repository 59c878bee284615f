pub mod LevelSteps
pub mod OperandKinds
pub mod Rooms
