-- What the parts so far say, and then those of the rest, is what all say.
use Rattle.std.proofs.Common.{◌≡◌, ◌+◌, ◌-◌, ◌≤◌, length, drop, Ok}
use Rattle.model_text.specs.Faults.{both_or_fault}
use Rattle.model_text.specs.Literals.{parts_of, literal_bytes}
use Rattle.aio_lex.proofs.literal.literal_bytes.Given as goal

abbrev pub invariant-loop-at : goal.invariant-loop-at
invariant-loop-at l = record {
  within : l.at ≤ length l.inside;
  parts : literal_bytes l.literal l.column (parts_of l.inside)
      ≡ both_or_fault (Ok l.said.items) (literal_bytes l.literal (l.column + l.at) (parts_of (drop l.at l.inside)));
}

abbrev pub decreases-loop-at : goal.decreases-loop-at
decreases-loop-at l = length l.inside - l.at
