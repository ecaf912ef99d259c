pub mod Gives
pub mod Parts
pub mod Scope
pub mod Judges
