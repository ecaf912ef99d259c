-- What is there is taken.
use Rattle.aio_ready.proofs.Names.{not_there}
use Rattle.aio_ready.proofs.register.Register.leave.Goals as goal

pub unreachable-requires : goal.unreachable-requires
unreachable-requires c = not_there _ (rw c.in-None.is at c.take.ensures.dead) c.requires
