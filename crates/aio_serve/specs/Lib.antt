pub use Rattle.aio_streaming.specs.Acting
pub use Rattle.aio_streaming.specs.Resuming
pub mod Alarm
pub mod Left
pub mod GoneOn
pub mod Adding
pub mod Own
