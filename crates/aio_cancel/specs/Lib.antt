pub mod Code
pub mod Waits
pub mod Seen
pub mod Awaitables
pub mod Noted
pub mod Room
pub mod Members
