-- The commands to pumps, with bytes as lists.
use Rattle.std.specs.Prelude.{ℕ, List}
use Rattle.model_pump.specs.declared.command.Command as any_command

abbrev pub Command : Type 0
Command = any_command.Command (List ℕ)
