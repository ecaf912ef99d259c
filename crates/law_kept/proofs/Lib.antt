pub mod Loops
pub mod Standing
pub mod Requests
mod Serving
pub mod Turning
