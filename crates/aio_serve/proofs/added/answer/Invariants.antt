-- After some asks this answer has come.
use Rattle.aio_serve.proofs.Adding.{AreAnswered}
use Rattle.aio_serve.proofs.added.answer.Given as goal

abbrev pub invariant-loop-woken : goal.invariant-loop-woken
invariant-loop-woken g l =
    AreAnswered g.X.Extra.added g.W.Wire.outside l.fn.task l.fn.asked l.fn.body l.fn.wire
    l.asked l.body l.wire
