use Rattle.aio_expr.proofs.Remainders.{remainder-below}
use Rattle.aio_expr.proofs.laws.quotients_are_rounded_down.Goals as goal

pub returns-clause-below : goal.returns-clause-below
returns-clause-below c = remainder-below
