mod Keeping
pub mod Asking
mod Alone
mod AllFree
mod Admitted
mod Launched
mod Noting
mod SelectAsks
mod Telling
pub mod Later
