pub mod Exchanged
pub mod Among
pub mod Follows
pub mod Tells
pub mod Ways
