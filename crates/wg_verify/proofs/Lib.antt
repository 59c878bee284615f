pub mod Beginning
pub mod Comparing
pub mod Exact
pub mod Judging
pub mod Running
pub mod Spending
