pub mod Made
pub mod Opened
pub mod Played
pub mod Readers
pub mod Writers
