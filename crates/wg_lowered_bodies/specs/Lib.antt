pub mod Statements
pub mod StatementsFit
pub mod Steps
pub mod StepsFit
pub mod Returning
