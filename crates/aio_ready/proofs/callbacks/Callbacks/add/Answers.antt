-- All are loose, the new one too.
use Rattle.aio_ready.proofs.Seeing.{loose_added}
use Rattle.aio_ready.proofs.callbacks.Callbacks.add.Goals as goal

pub invariant_of-self : goal.invariant_of-self
invariant_of-self c = rw c.push.ensures (loose_added _ _ c.self.inside.waiting c.self.invariant)
