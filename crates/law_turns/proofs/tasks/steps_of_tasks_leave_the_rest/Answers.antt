use Rattle.law_turns.proofs.Made.{spawn_after}
use Rattle.law_turns.proofs.Requests.{begin_after, suspend_after, finish_after}
use Rattle.law_turns.proofs.tasks.steps_of_tasks_leave_the_rest.Goals as goal

pub returns-clause-made : goal.returns-clause-made
returns-clause-made c = spawn_after

pub returns-clause-begins : goal.returns-clause-begins
returns-clause-begins c = begin_after

pub returns-clause-suspends : goal.returns-clause-suspends
returns-clause-suspends c = suspend_after

pub returns-clause-finishes : goal.returns-clause-finishes
returns-clause-finishes c = finish_after
