pub mod Calls
pub mod ExprMeaning
pub mod FunctionMeaning
pub mod LaunchMeaning
pub mod Places
pub mod StepMeaning
pub mod StmtMeaning
