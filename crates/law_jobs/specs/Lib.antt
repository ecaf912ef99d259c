pub mod Tries
pub mod Notes
pub mod Runs
