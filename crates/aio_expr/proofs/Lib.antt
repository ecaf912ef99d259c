mod Floors
mod Places
mod InBounds
mod Decoded
mod Variables
pub mod Evaluated
mod Orders
mod Remainders
