use Rattle.law_turns.proofs.Made.{due_after}
use Rattle.law_turns.proofs.tasks.timers_that_fall_due_leave_the_rest.Goals as goal

pub returns : goal.returns
returns c = due_after
