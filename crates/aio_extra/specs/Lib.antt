pub mod Added
pub mod Called
pub mod Nothing
