-- The tasks so far are cancelled.
use Rattle.aio_core.proofs.Stopping.{HasCancelled}
use Rattle.aio_core.proofs.turns.cancel_everything.Given as goal

abbrev pub invariant-loop-task : goal.invariant-loop-task
invariant-loop-task g l = HasCancelled g.X.Extra.added l.fn.body l.body l.task
