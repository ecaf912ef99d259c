use Rattle.aio_serving.specs.Heads.{Grows}
use Rattle.aio_closing.specs.Stops.{nothing}
use Rattle.aio_closing.proofs.stopping.stop.Given as goal

abbrev pub invariant-loop : goal.invariant-loop
invariant-loop g l = Grows nothing (g.H.Heads.seen l.initial.heads) (g.H.Heads.seen l.heads)
