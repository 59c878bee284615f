pub mod Faults
pub mod OutputRules
pub mod RecordDiffers
