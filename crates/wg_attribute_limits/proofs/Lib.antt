pub mod Fitting
pub mod GoodKinds
pub mod GoodNodes
pub mod Owning
pub mod RightSites
pub mod TextKeeps
pub mod Values
