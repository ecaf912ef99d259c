pub mod Along
pub mod Beside
pub mod Alike
pub mod Passed
pub mod Streams
pub mod Went
