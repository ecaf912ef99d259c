pub mod Seated
pub mod Running
pub mod Lending
mod Freeing
