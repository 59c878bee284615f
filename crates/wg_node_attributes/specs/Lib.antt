pub mod Axes
pub mod Budgets
pub mod Ids
pub mod Kinds
pub mod Nodes
pub mod Numbers
pub mod Parameters
