pub use Rattle.aio_receiver.specs.Gotten
pub mod Code
pub mod Lost
pub mod Owned
