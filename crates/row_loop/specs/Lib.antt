pub mod Cancels
pub mod Family
pub mod Ledgers
pub mod Made
pub mod Nested
pub mod ProfileTwo
pub mod Steps
pub mod Standing
