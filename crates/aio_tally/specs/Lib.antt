pub use Rattle.model_commands.specs.Works
pub mod Ending
pub mod Tallied
