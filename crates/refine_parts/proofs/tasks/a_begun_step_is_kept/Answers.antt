use Rattle.refine_parts.proofs.Calls.{keeps_begin}
use Rattle.refine_parts.proofs.Only.{begin_name_map}
use Rattle.refine_parts.proofs.tasks.a_begun_step_is_kept.Goals as goal

pub returns-clause-after : goal.returns-clause-after
returns-clause-after c = λ t v w p task input k became. keeps_begin t v w p k task input became

pub returns-clause-name_map : goal.returns-clause-name_map
returns-clause-name_map c = begin_name_map
