pub mod Holding
pub mod Keys
pub mod Allowed
pub mod Falling
