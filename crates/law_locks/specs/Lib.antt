pub mod Tries
pub mod Queues
pub mod Refused
pub mod Runs
pub mod Locks
pub mod Requests
