pub mod Coming
pub mod Onward
pub mod Counted
pub mod Drawing
pub mod Entering
pub mod Asking
pub mod Calling
pub mod Walking
