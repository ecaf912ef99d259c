pub mod Keeping
mod Doing
mod Telling
mod Noted
mod Stopping
pub mod Alike
mod Adding
pub mod Forgetting
pub mod Nexts
mod Calling
mod Leaving
pub mod Owning
mod Standing
mod Going
pub mod Requests
pub mod Answering
pub mod GivingUp
pub mod May
pub mod Meaning
pub mod Kept
pub mod Possible
pub mod Replying
pub mod Unasking
pub mod Served
