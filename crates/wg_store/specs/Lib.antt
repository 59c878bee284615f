pub mod Best
pub mod Items
pub mod Keep
pub mod Laws
