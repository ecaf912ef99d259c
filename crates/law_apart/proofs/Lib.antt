pub mod Parts
pub mod Loops
pub mod Requests
pub mod Callbacks
