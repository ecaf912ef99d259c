pub mod Owned
pub mod Walks
pub mod Runs
pub mod Between
