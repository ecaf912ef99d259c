use Rattle.std.proofs.Common.{ap}
use Rattle.std.specs.Prelude.{length}
use Rattle.refine_parts.proofs.Calls.{kept_spawn}
use Rattle.refine_parts.proofs.tasks.a_new_task_is_kept.Goals as goal

pub returns-clause-after : goal.returns-clause-after
returns-clause-after c = kept_spawn

pub returns-clause-number : goal.returns-clause-number
returns-clause-number c = λ t v p k. ap length k.tasks
