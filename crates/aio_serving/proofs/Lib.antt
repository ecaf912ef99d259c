pub mod Giving
pub mod Same
