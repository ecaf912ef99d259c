use Rattle.std.proofs.Common.{◌≡◌, ◌+◌, ◌≤◌, length}
use Rattle.model_value.specs.Lines.{lines_of}
use Rattle.aio_script.proofs.lines.line_count.Given as goal

abbrev pub invariant-loop-behind : goal.invariant-loop-behind
invariant-loop-behind l = record {
  counted : l.count + length (lines_of l.rest) ≡ length (lines_of l.fn.text);
  bounded : l.count + length l.rest ≤ length l.fn.text;
}

abbrev pub decreases-loop-behind : goal.decreases-loop-behind
decreases-loop-behind l = length l.rest
