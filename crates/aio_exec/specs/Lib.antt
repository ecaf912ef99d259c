pub mod Drawn
pub mod Code
pub mod Keeps
pub mod Wants
pub mod Seen
pub mod Added
