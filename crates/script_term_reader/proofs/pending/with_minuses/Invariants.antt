use Rattle.std.proofs.Common.{◌≡◌, ◌-◌}
use Rattle.algorithm_reading.specs.Pending.{with_minuses}
use Rattle.script_term.specs.Operand.{plain_operand}
use Rattle.script_term_reader.proofs.pending.with_minuses.Given as goal

abbrev pub invariant-loop-count : goal.invariant-loop-count
invariant-loop-count l = with_minuses (l.minuses - l._count) (plain_operand l.made) ≡ with_minuses l.minuses (plain_operand l.fn.operand)
