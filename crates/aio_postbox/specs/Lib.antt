pub mod Counts
pub mod Fours
