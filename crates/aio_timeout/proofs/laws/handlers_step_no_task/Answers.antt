use Rattle.aio_timeout.proofs.Naming.{handlers_step_none}
use Rattle.aio_timeout.proofs.laws.handlers_step_no_task.Goals as goal

pub returns : goal.returns
returns c = handlers_step_none
