use Rattle.std.proofs.Common.{◌++◌, [], ◌∷◌, subst}
use Rattle.script_naming.specs.Scope.{Holds}
use Rattle.script_naming.proofs.Names.{Holds-insert}
use Rattle.script_naming.proofs.scope.bind.Goals as goal

pub returns : goal.returns
returns c = λ names holds.
    subst (λ key. Holds c.insert.new.self (names ++ key ∷ [])) c.as_str.ensures.value
    (Holds-insert c.args.bound.now c.insert.new.self c.as_str.result names c.in_ok-insert.ensures.updates holds)
