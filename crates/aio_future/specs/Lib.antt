pub mod Code
pub mod Bare
pub mod Rooms
pub mod Kinds
pub mod Table
pub mod Settled
pub mod Awaited
