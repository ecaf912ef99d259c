pub mod InStep
pub mod Added
