use Rattle.std.proofs.Common.{arith}
use Rattle.aio_core.proofs.Waking.{tasks_few}
use Rattle.aio_core.proofs.turns.tasks.Goals as goal

pub overflow_cast-result : goal.overflow_cast-result
overflow_cast-result g c = let few = tasks_few c.args.body.now c.requires in let is = c.len.ensures in omega (arith, few, is)
