pub mod Begins
pub mod Results
