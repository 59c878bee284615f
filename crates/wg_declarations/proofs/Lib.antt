pub mod TypeReads
