use Rattle.refine_parts.proofs.Calls.{keeps_uncancel}
use Rattle.refine_parts.proofs.Only.{uncancel_name_map}
use Rattle.refine_parts.proofs.tasks.an_uncancel_is_kept.Goals as goal

pub returns-clause-after : goal.returns-clause-after
returns-clause-after c = λ t v w p profile task k became. keeps_uncancel t v w p k profile task became

pub returns-clause-name_map : goal.returns-clause-name_map
returns-clause-name_map c = uncancel_name_map
