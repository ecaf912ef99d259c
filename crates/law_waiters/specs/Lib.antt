pub mod Reached
pub mod Timed
pub mod Answers
