use Rattle.std.proofs.Common.{◌≡◌, ◌≤◌, drop, length, map, reverse}
use Rattle.std.specs.Prelude.{slice_range}
use Rattle.model_text.specs.SecondPass.{parts_of}
use Rattle.script_term.specs.Spelled.{plain_numbered}
use Rattle.script_naming.specs.Parts.{plain_parts}
use Rattle.script_naming.proofs.part.parts_of.Given as goal

abbrev pub invariant-loop-at : goal.invariant-loop-at
invariant-loop-at l = record {
  in_range : l.at ≤ l.end;
  inside : l.end ≤ length l.forms;
  front : (parts_of (map plain_numbered (drop l.at l.forms))).front ≡ map plain_numbered (slice_range l.forms l.at l.end);
  coroutines : (parts_of (map plain_numbered (drop l.at l.forms))).coroutines ≡ plain_parts (reverse l.parts.items);
}

abbrev pub decreases-loop-at : goal.decreases-loop-at
decreases-loop-at l = l.at
