-- The first is loose.
use Rattle.std.proofs.lemmas.Bool.{false≢true}
use Rattle.aio_ready.proofs.callbacks.Callbacks.pop.Goals as goal

pub unreachable-requires : goal.unreachable-requires
unreachable-requires c =
    let first = rw c.in-Registered.is at c.in-Some.ensures in
    false≢true (rw first at c.self.invariant)
