pub mod Codes
pub mod Commands
pub mod Counts
pub mod Pipes
