pub mod Yields
pub mod Exprs
pub mod Stmts
pub mod Items
