use Rattle.aio_future.proofs.Puts.{gone}
use Rattle.aio_future.proofs.Unawaited.{gone_keeps}
use Rattle.aio_future.proofs.futures.Futures.release.Goals as goal

pub returns : goal.returns
returns c =
    gone c.self.inside.held.entries c.swap_remove-future.new.self.entries c.self.inside.next c.args.id c.args.self.now
    c.self.invariant.0 c.self.view_is c.swap_remove-future.ensures.updates.0

pub invariant_of-self : goal.invariant_of-self
invariant_of-self c =
    gone_keeps c.self.inside.held.entries c.swap_remove-future.new.self.entries c.self.inside.next c.args.id c.self.inside.alone
    c.self.inside.over c.self.invariant c.swap_remove-future.ensures.updates.0
