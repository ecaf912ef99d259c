use Rattle.std.proofs.Common.{◌≡◌, ◌++◌, take}
use Rattle.model_value.specs.Escapes.{escaped}
use Rattle.aio_base.proofs.literal.push_escaped.Given as goal

abbrev pub invariant-loop-byte : goal.invariant-loop-byte
invariant-loop-byte l = l.out.items ≡ l.initial.out.items ++ escaped l.place (take l.byte-index l.bytes)
