pub mod Heads
pub mod Served
pub mod Fed
