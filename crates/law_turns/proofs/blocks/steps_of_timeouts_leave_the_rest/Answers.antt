use Rattle.std.specs.Prelude.{None, true, false}
use Rattle.std.proofs.Common.{refl}
use Rattle.law_turns.proofs.Deadlines.{reschedule_loop, fire_loop, leave_loop, leave_closes}
use Rattle.law_turns.proofs.blocks.steps_of_timeouts_leave_the_rest.Goals as goal

pub returns-clause-reschedule : goal.returns-clause-reschedule
returns-clause-reschedule c = λ test nothing excused id when l is. reschedule_loop test nothing false excused None None None id when l is

pub returns-clause-fire : goal.returns-clause-fire
returns-clause-fire c = λ test nothing excused id l open_. fire_loop test nothing false excused None None None id l open_

pub returns-clause-leave : goal.returns-clause-leave
returns-clause-leave c = λ test nothing excused raised id l is. leave_loop test nothing false excused None None raised id l is

pub returns-clause-closed : goal.returns-clause-closed
returns-clause-closed c = λ raised id l is within. leave_closes (λ value. true) refl false None None None raised id l is within
