pub mod Bare
pub mod Code
pub mod Searched
