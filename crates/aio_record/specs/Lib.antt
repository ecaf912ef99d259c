pub use Rattle.model_commands.specs.Recorded
pub mod Recording
