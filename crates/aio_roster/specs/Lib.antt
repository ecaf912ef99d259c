pub mod Rosters
pub mod Holders
pub mod Changes
