pub mod Called
pub mod Fours
pub mod Routed
