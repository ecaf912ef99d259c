pub mod Holding
pub mod Comes
pub mod Keys
pub mod Allowed
pub mod Falling
pub mod Tidying
