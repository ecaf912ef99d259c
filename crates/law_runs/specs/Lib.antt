pub mod Growth
pub mod Ends
pub mod Allowed
