use Rattle.std.proofs.Common.{◌≡◌, map, option_map}
use Rattle.model_text.specs.Levels.{all_of}
use Rattle.algorithm_reading.specs.Operands.{that_fits}
use Rattle.script_term.specs.Operand.{plain_operand}
use Rattle.script_term.proofs.operand.all_that_fit.Given as goal

abbrev pub invariant-loop-operand : goal.invariant-loop-operand
invariant-loop-operand l = option_map (λ all. all.items) l.terms ≡ all_of that_fits (map plain_operand l.yielded)
