-- Code's commands as the definitions have them.
use Rattle.std.specs.Prelude.{◌≤◌}
use Rattle.std.specs.Option.{option_copied}
use Rattle.model_words.specs.Words as plain
use Rattle.aio_words.specs.declared.command.Command.{Command}
use Rattle.aio_words.specs.declared.command.Command.TheVariants.{Check, Replay, Run, Work}

abbrev pub plain_command : Command → plain.Command
plain_command (Check script) = plain.Check script.now
plain_command (Replay script journal trace turns) = plain.Replay script.now journal.now trace turns
plain_command (Run script recorded trace turns) = plain.Run script.now (option_copied recorded) trace turns
plain_command (Work seed) = plain.Work seed

-- whatever has a limit of turns is allowed one at least
abbrev pub AllowsSome : Command → Type 0
AllowsSome (Check script) = Unit {0}
AllowsSome (Replay script journal trace turns) = 1 ≤ turns
AllowsSome (Run script recorded trace turns) = 1 ≤ turns
AllowsSome (Work seed) = Unit {0}
