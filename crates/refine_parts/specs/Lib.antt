pub mod Runs
pub mod Waiting
pub mod Requests
pub mod Waits
