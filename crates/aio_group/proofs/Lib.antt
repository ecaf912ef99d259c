mod Laws
pub mod Going
pub mod Listing
pub mod Standing
mod Asking
mod Flags
mod Stepping
mod Leaving
mod Waiting
mod Exiting
mod Belonging
mod Spawning
mod Numbering
mod Calls
