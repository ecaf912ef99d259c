pub mod Handles
pub mod Members
