pub mod Rows
pub mod Joined
pub mod Weights
pub mod Depths
mod Quotes
pub mod Newlines
pub mod Equals
