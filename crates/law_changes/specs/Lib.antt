pub mod Blocks
pub mod Changes
pub mod Reaches
pub mod Telling
