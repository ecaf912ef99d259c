pub mod Bare
pub mod Code
pub mod Gotten
pub mod Woken
