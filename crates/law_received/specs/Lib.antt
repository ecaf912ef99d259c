pub mod Calm
pub mod Readers
pub mod Feeding
pub mod Waiting
pub mod Gives
pub mod Received
