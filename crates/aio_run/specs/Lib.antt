pub mod Manner
pub mod Running
pub mod Script
pub mod Working
pub mod Writes
