pub mod Carrying
pub mod Steps
pub mod Registering
pub mod Beginning
pub mod GroupSteps
pub mod TimeoutSteps
