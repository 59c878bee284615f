pub mod FirstOnes
pub mod Repeats
pub mod SameRecords
pub mod SetFlags
