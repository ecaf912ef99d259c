pub mod Counts
pub mod Done
pub mod Answered
pub mod Ports
pub mod Going
pub mod Written
pub mod Resuming
pub mod Acting
