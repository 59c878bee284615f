pub mod Endings
pub mod Phases
pub mod Doing
pub mod Plain
pub mod Exprs
pub mod Stmts
pub mod Functions
