use Rattle.std.proofs.Common.{◌≡◌, ◌≤◌, true, drop, length, map}
use Rattle.std.specs.Rc.{rc_str_bytes}
use Rattle.model_text.specs.SecondPass.{are_fresh}
use Rattle.script_naming.specs.Scope.{Holds}
use Rattle.script_naming.proofs.head.are_fresh.Given as goal

abbrev pub invariant-loop-at : goal.invariant-loop-at
invariant-loop-at l = record {
  in_range : l.at ≤ length l.names;
  holds : Holds l.later (map rc_str_bytes (drop l.at l.names));
  fresh : are_fresh (map rc_str_bytes (drop l.at l.names)) ≡ true;
}

abbrev pub decreases-loop-at : goal.decreases-loop-at
decreases-loop-at l = l.at
