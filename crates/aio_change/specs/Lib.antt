pub use Rattle.aio_task.specs.View
pub mod Owned
pub mod Seen
