pub mod Asked
pub mod Causes
pub mod Outputs
pub mod Promise
pub mod Recorded
pub mod Telling
pub mod Works
