pub mod Added
pub mod Runs
pub mod Written
pub mod Transcript
pub mod Program
