use Rattle.std.proofs.Common.{refl}
use Rattle.refine_parts.proofs.Appending.{extends_still}
use Rattle.refine_parts.proofs.Scheduling.{due_name_map}
use Rattle.refine_parts.proofs.name_maps.name_maps_stay.Goals as goal

pub returns-clause-revoke : goal.returns-clause-revoke
returns-clause-revoke c = λ t p tag. extends_still t p _ refl

pub returns-clause-due : goal.returns-clause-due
returns-clause-due c = due_name_map

pub returns-clause-time : goal.returns-clause-time
returns-clause-time c = λ t p now. extends_still t p _ refl

pub returns-clause-run : goal.returns-clause-run
returns-clause-run c = λ t p handles. extends_still t p _ refl
