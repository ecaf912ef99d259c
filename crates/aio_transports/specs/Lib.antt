pub mod Code
pub mod Kept
pub mod Owned
pub mod Readers
pub mod Standing
pub mod Watched
