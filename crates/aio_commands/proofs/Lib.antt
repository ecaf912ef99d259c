mod Passing
pub mod Commanding
pub mod Together
mod Ending
