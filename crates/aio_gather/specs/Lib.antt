pub mod Kept
pub mod Counted
pub mod Requested
pub mod Ended
pub mod Seen
pub mod Added
