use Rattle.refine_parts.proofs.Waiting.{waits_suspend}
use Rattle.refine_parts.proofs.waits.one_task_waits.Goals as goal

pub returns : goal.returns
returns c = waits_suspend
