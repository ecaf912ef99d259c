use Rattle.std.proofs.Common.{◌≡◌, take}
use Rattle.std.specs.Process.{command_program, command_args}
use Rattle.aio_process.specs.Commands.{texts}
use Rattle.aio_process.proofs.command.add_all.Given as goal

abbrev pub invariant-loop-word : goal.invariant-loop-word
invariant-loop-word l =
    (command_program l.command ≡ command_program l.fn.command)
    × (command_args l.command ≡ texts (take l.word-index l.rest))
