pub mod Grows
pub mod Places
pub mod Numbers
pub mod Known
pub mod Built
pub mod Code
