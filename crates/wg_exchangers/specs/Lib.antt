pub mod Exchanging
pub mod ExchangingLaws
pub mod Graph
