use Rattle.std.proofs.Common.{rules, subst}
use Rattle.aio_flat.specs.Known.{Knows}
use Rattle.aio_flat.proofs.KnownLemmas.{Knows-insert}
use Rattle.aio_flat.proofs.variables.add_parameter.Goals as goal

pub returns-clause-known : goal.returns-clause-known
returns-clause-known c = λ knows.
    subst (Knows c.insert.new.self) (search rules)
    (Knows-insert c.args.known.now c.insert.new.self c.as_str.result c.args.names.now.items c.in_ok-insert.ensures.updates knows)
