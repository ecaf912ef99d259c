pub use Rattle.aio_core.specs.Asked
pub use Rattle.aio_extra.specs.Added
pub use Rattle.aio_record.specs.Recorded
pub mod Drive
pub mod Ending
pub mod Outcome
pub mod Recording
pub mod Writing
