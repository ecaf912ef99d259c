pub mod Plain
pub mod Gens
