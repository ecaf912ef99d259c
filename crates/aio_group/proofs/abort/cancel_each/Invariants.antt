use Rattle.aio_group.proofs.Asking.{AskedSoFar}
use Rattle.aio_group.proofs.abort.cancel_each.Given as goal

abbrev pub invariant-loop-task : goal.invariant-loop-task
invariant-loop-task l = AskedSoFar l.initial.parts l.parts l.tasks.keys l.task-iterator
