pub mod PartReads
