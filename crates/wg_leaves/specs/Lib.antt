pub mod Going
pub mod Leaves
