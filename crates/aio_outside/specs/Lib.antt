pub mod Room
pub mod Untold
