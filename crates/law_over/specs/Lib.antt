pub mod AllEnds
pub mod Gone
pub mod Grown
