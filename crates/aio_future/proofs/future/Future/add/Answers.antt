use Rattle.aio_future.proofs.Unawaited.{one_more}
use Rattle.aio_future.proofs.future.Future.add.Goals as goal

pub invariant_of-self : goal.invariant_of-self
invariant_of-self c =
    one_more c.self.inside.wakes c.wakes_with-self-inside.result c.args.action c.self.inside.callbacks c.add.new.self c.self.invariant
    c.wakes_with-self-inside.ensures c.add.ensures
