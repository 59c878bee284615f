pub mod TurnSteps
