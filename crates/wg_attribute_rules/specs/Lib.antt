pub mod Before
pub mod Noted
pub mod Positions
