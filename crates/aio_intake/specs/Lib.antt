pub mod Homes
pub mod Taken
