use Rattle.refine_parts.proofs.Appending.{waiting_kept}
use Rattle.refine_parts.proofs.Running.{none_waits, some_waits}
use Rattle.refine_parts.proofs.handles.waiting_handles_are_kept.Goals as goal

pub returns-clause-all : goal.returns-clause-all
returns-clause-all c = waiting_kept

pub returns-clause-none : goal.returns-clause-none
returns-clause-none c = none_waits

pub returns-clause-some : goal.returns-clause-some
returns-clause-some c = some_waits
