use Rattle.std.proofs.Common.{◌≡◌, ◌≤◌, length}
use Rattle.model_says.specs.Variables.{bound}
use Rattle.algorithm_locals.specs.Numbered.{locals, holding}
use Rattle.aio_gen.proofs.calls.bound.Given as goal

abbrev pub invariant-loop-number : goal.invariant-loop-number
invariant-loop-number l = record {
  env : holding 0 l.held.items ≡ bound (locals 0 l.number) l.values;
  in_range : l.number ≤ l.count;
  long : length l.held.items ≡ l.number;
}
