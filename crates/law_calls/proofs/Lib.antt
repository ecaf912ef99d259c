pub mod Events
pub mod Rows
pub mod Serving
pub mod Turning
pub mod History
