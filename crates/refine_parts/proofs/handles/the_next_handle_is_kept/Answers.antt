use Rattle.refine_parts.proofs.Skipping.{keeps_dead, keeps_live, none_next, keeps_next}
use Rattle.refine_parts.proofs.handles.the_next_handle_is_kept.Goals as goal

pub returns-clause-dead : goal.returns-clause-dead
returns-clause-dead c = λ t v p first others k are early dead. keeps_dead t v p k first others are early dead

pub returns-clause-live : goal.returns-clause-live
returns-clause-live c = λ t v p first others called k are early live. keeps_live t v p k first others are early called live

pub returns-clause-none : goal.returns-clause-none
returns-clause-none c = none_next

pub returns-clause-skips : goal.returns-clause-skips
returns-clause-skips c = keeps_next
