use Rattle.std.proofs.Common.{◌≡◌, ◌++◌, map, take}
use Rattle.std.specs.Rc.{rc_str_bytes}
use Rattle.model_text.specs.Canonical.{names_text}
use Rattle.law_value.proofs.Joined.{separator}
use Rattle.script_canonical.proofs.program.push_names.Given as goal

abbrev pub invariant-loop-name : goal.invariant-loop-name
invariant-loop-name l =
    (l.out.items ≡ l.initial.out.items ++ names_text (map rc_str_bytes (take l.name-index l.names)))
    × (l.before ≡ separator (take l.name-index l.names))
