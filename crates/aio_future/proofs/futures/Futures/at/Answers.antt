use Rattle.std.proofs.Common.{sym, ◌∙◌}
use Rattle.aio_future.proofs.TableLemmas.{at_held}
use Rattle.aio_future.proofs.Puts.{at_none}
use Rattle.aio_future.proofs.futures.Futures.at.Goals as goal

pub returns-in-Some : goal.returns-in-Some
returns-in-Some c =
    rw (← c.self.view_is)
    (sym (at_held c.self.inside.held.entries c.self.inside.next c.args.id c.in-Some.future.now c.self.invariant.0 c.in-Some.ensures.value))

pub returns-in-None : goal.returns-in-None
returns-in-None c =
    c.released_at.ensures ∙ at_none c.self.inside.held.entries c.self.inside.next c.args.id c.args.self.now c.self.view_is c.in-None.ensures.value
