pub mod Forms
pub mod Elements
