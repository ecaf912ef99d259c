pub mod Links
pub mod Ownership
