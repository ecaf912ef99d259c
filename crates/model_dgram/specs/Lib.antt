pub mod Texts
pub mod Endpoints
pub mod Opening
pub mod Sending
pub mod Receiving
pub mod Serving
