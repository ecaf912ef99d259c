use Rattle.std.proofs.Common.{◌≤◌, drop, length, map}
use Rattle.model_text.specs.SecondPass.{callee}
use Rattle.script_naming.specs.Parts.{plain_parts}
use Rattle.script_naming.specs.Scope.{FindsFirst}
use Rattle.script_naming.proofs.callees.arities_of.Given as goal

abbrev pub invariant-loop-at : goal.invariant-loop-at
invariant-loop-at l = record {
  in_range : l.at ≤ length l.parts;
  finds : FindsFirst l.arities (map callee (plain_parts (drop l.at l.parts)));
}

abbrev pub decreases-loop-at : goal.decreases-loop-at
decreases-loop-at l = l.at
