pub use Rattle.aio_connection.specs.Gotten
pub mod Code
pub mod Holdings
pub mod Kept
pub mod Owned
pub mod Standing
pub mod Watched
