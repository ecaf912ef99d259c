pub mod Syntax
pub mod Known
