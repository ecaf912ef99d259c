pub mod Asked
pub mod Wired
