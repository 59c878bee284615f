pub mod Additive
pub mod ExprTouches
pub mod Quiet
pub mod StmtTouches
pub mod TextTouches
pub mod Touch
