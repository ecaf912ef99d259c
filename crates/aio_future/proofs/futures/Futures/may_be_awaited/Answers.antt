use Rattle.aio_future.proofs.Unawaited.{unawaited}
use Rattle.aio_future.proofs.futures.Futures.may_be_awaited.Goals as goal

pub returns : goal.returns
returns c = λ h.
    unawaited c.self.inside.held.entries c.self.inside.next c.args.id c.self.inside.alone c.args.self.now c.in-Some.future.now
    c.self.invariant.0 c.self.view_is c.self.invariant.1.1 c.in-Some.ensures.value c.if-id-self.false (c.wakes.ensures h)
