use Rattle.std.proofs.Common.{◌≡◌, ◌-◌}
use Rattle.algorithm_reading.specs.Pending.{with_nots}
use Rattle.script_term.specs.Operand.{plain_operand}
use Rattle.script_term_reader.proofs.pending.with_nots.Given as goal

abbrev pub invariant-loop-count : goal.invariant-loop-count
invariant-loop-count l = with_nots (l.nots - l._count) (plain_operand l.made) ≡ with_nots l.nots (plain_operand l.fn.operand)
