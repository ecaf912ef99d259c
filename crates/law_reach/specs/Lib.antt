pub mod Asked
pub mod Changes
pub mod Reaches
pub mod Streams
