pub mod Served
mod Named
mod Values
mod Sizes
mod Refusing
pub mod Runs
mod Lines
mod Who
mod Held
mod Steps
mod Chains
pub mod Heeded
mod Numbers
