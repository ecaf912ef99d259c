-- What stands left of an operator, seen as plain data.
-- Source: the definition of what is pending (algorithm_reading, specs/Pending.antt).
use Rattle.std.specs.Prelude.{Option, option_map}
use Rattle.algorithm_reading.specs.Operands as model
use Rattle.script_term.specs.declared.operand.Operand.{Operand}
use Rattle.script_term.specs.Operand.{plain_operand}

-- an operator with what stands left of it
abbrev pub plain_left : {A : Type 0} → Option (A × Operand) → Option (A × model.Operand)
plain_left left = option_map (λ pair. (pair.0, plain_operand pair.1)) left
