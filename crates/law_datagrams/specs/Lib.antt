pub mod Notes
pub mod Tries
pub mod Runs
