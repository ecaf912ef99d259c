pub mod States
pub mod Seen
pub mod Alone
pub mod Made
pub mod Starved
pub mod Launching
pub mod Selecting
