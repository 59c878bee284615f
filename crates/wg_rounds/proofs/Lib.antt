pub mod Choosing
pub mod Firsts
pub mod Opening
pub mod Running
pub mod Same
pub mod Settling
