-- None so far lives.
use Rattle.aio_core.proofs.Stopping.{NoneLives}
use Rattle.aio_core.proofs.turns.any_lives.Given as goal

abbrev pub invariant-loop-task : goal.invariant-loop-task
invariant-loop-task g l = NoneLives l.body l.task
