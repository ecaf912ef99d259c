pub mod Endings
pub mod WaysOut
pub mod Statements
pub mod Moves
pub mod Tapes
pub mod Nearer
