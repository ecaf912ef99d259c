mod Causes
pub mod Driving
mod Exits
pub mod Fronts
mod Rounds
pub mod Telling
pub mod Turns
pub mod Unrecorded
pub mod Written
