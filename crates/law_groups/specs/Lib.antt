pub mod Tags
pub mod Holds
