pub mod Gives
pub mod Rounding
pub mod Places
pub mod BindingCode
pub mod Values
pub mod Raises
pub mod Ordered
