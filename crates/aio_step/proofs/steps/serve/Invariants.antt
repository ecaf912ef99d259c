-- After some asks the step goes on.
use Rattle.aio_step.proofs.Going.{AreOn}
use Rattle.aio_step.proofs.steps.serve.Given as goal

abbrev pub invariant-loop-answered : goal.invariant-loop-answered
invariant-loop-answered g l =
    AreOn g.X.Extra.added g.W.Wire.outside l.fn.task l.fn.input l.fn.body l.fn.coroutine l.fn.wire
    l.fresh l.input l.body l.coroutine l.wire
