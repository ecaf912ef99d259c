pub mod Zips
pub mod Loops
pub mod Handlers
pub mod Keeping
pub mod Naming
mod Below
