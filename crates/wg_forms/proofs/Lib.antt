pub mod Folded
pub mod Uncalled
pub mod Indexed
