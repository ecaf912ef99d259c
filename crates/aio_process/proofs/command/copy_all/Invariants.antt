use Rattle.std.proofs.Common.{◌≡◌, map, take}
use Rattle.std.specs.Rc.{rc_str_bytes}
use Rattle.aio_process.specs.Commands.{texts}
use Rattle.aio_process.proofs.command.copy_all.Given as goal

abbrev pub invariant-loop-word : goal.invariant-loop-word
invariant-loop-word l = texts l.all.items ≡ map rc_str_bytes (take l.word-index l.word-items)
