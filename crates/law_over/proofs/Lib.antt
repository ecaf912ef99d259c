pub mod Along
pub mod Growing
pub mod OverChildren
pub mod OverConnections
pub mod Spent
pub mod Staying
