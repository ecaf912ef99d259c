use Rattle.std.proofs.Common.{◌++◌, take, map, subst}
use Rattle.std.specs.Rc.{rc_str_bytes}
use Rattle.script_naming.specs.Scope.{Holds}
use Rattle.script_naming.proofs.Names.{names_in, names_in-more}
use Rattle.script_naming.proofs.scope.names_bound.Goals as goal

pub loop-line-preserved : goal.loop-line-preserved
loop-line-preserved c =
    let parameters = map rc_str_bytes c.args.part.now.parameters.now in
    let lines = c.args.part.now.lines.now in
    let at = c.loop-line.line-index in
    subst (Holds c.bind_in.new.bound) (names_in-more parameters lines at c.line-item.result c.loop-line-test.true c.line-item.is)
    (c.in_ok-bind_in.ensures (parameters ++ names_in (take at lines)) c.loop-line.invariant)
