pub mod Rising
pub mod Resolved
mod Entries
mod Same
mod Lifting
mod Seeing
mod Answering
mod Asking
mod Again
