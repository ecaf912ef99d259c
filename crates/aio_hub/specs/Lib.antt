pub mod Polls
pub mod InMemory
pub mod MemPolls
pub mod Launches
pub mod Plays
pub mod MemLaunches
