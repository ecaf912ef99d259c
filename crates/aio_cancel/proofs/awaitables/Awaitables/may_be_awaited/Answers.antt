use Rattle.std.proofs.Common.{subst}
use Rattle.aio_future.specs.Awaited.{IsUnawaited}
use Rattle.aio_cancel.specs.Awaitables.{Awaitables}
use Rattle.aio_cancel.proofs.awaitables.Awaitables.may_be_awaited.Goals as goal

pub returns : goal.returns
returns c = λ h. subst (λ (v : Awaitables). IsUnawaited c.args.id v.futures) c.self.view_is (c.may_be_awaited.ensures h)
