pub mod Kills
pub mod Passes
pub mod Ends
pub mod Stops
