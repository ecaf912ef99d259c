use Rattle.std.proofs.Common.{◌≡◌, take, min}
use Rattle.model_value.specs.Number.{digits_value}
use Rattle.aio_text.proofs.numbers.value_of.Given as goal

abbrev pub invariant-loop-digit : goal.invariant-loop-digit
invariant-loop-digit l = l.value ≡ min (digits_value (take l.digit-index l.digits)) 9223372036854775809
