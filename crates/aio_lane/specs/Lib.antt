pub use Rattle.model_pump.specs.Commands
pub mod Delivers
pub mod Ends
