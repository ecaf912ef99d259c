pub mod Names
pub mod Queue
pub mod Reach
pub mod Entries
pub mod Found
pub mod Sides
pub mod Falls
pub mod Registered
