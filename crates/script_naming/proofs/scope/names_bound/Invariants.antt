use Rattle.std.proofs.Common.{◌++◌, take, map}
use Rattle.std.specs.List.{flat_map}
use Rattle.std.specs.Rc.{rc_str_bytes}
use Rattle.model_text.specs.SecondPass.{bound_by}
use Rattle.script_term.specs.Spelled.{plain_numbered}
use Rattle.script_naming.specs.Scope.{Holds}
use Rattle.script_naming.proofs.scope.names_bound.Given as goal

abbrev pub invariant-loop-parameter : goal.invariant-loop-parameter
invariant-loop-parameter l = Holds l.bound (map rc_str_bytes (take l.parameter-index l.parameters))

abbrev pub invariant-loop-line : goal.invariant-loop-line
invariant-loop-line l =
    Holds l.bound (map rc_str_bytes l.part.parameters.now ++ flat_map (λ line. bound_by line.form) (map plain_numbered (take l.line-index l.lines)))
