pub mod View
pub mod Code
pub mod Bare
pub mod Kept
pub mod Keeps
