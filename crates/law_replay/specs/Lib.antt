pub mod Foreseeing
pub mod Reads
