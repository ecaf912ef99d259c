use Rattle.std.proofs.Common.{◌≡◌, map}
use Rattle.model_text.specs.Scripts.{coroutine}
use Rattle.aio_program.specs.Line.{plain_part}
use Rattle.aio_script.proofs.reader.coroutines_of.Given as goal

abbrev pub invariant-loop-part : goal.invariant-loop-part
invariant-loop-part l = l.coroutines.items ≡ map (λ part. coroutine (plain_part part)) l.yielded
