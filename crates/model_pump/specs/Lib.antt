pub mod Posts
pub mod Commands
