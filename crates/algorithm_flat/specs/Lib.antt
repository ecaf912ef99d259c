pub mod Ops
pub mod Laid
pub mod Rests
pub mod Moves
pub mod Stands
pub mod Tapes
pub mod Nearer
