use Rattle.std.specs.Rc.{rc_str_bytes}
use Rattle.script_naming.proofs.Heads.{Holds-first}
use Rattle.script_naming.proofs.head.adds.Goals as goal

pub returns-clause-holds : goal.returns-clause-holds
returns-clause-holds c = λ names holds.
    Holds-first c.bind.new.bound names (rc_str_bytes c.args.name.now) (c.in_ok-bind.ensures names holds)
