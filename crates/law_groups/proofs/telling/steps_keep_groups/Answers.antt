use Rattle.law_groups.proofs.StepHolds.{begin_holds, pause_holds, suspend_holds, finish_holds}
use Rattle.law_groups.proofs.telling.steps_keep_groups.Goals as goal

pub returns-clause-begins : goal.returns-clause-begins
returns-clause-begins c = begin_holds

pub returns-clause-pauses : goal.returns-clause-pauses
returns-clause-pauses c = pause_holds

pub returns-clause-suspends : goal.returns-clause-suspends
returns-clause-suspends c = λ told heard groups task on p here h. suspend_holds told heard groups task on p here h

pub returns-clause-finishes : goal.returns-clause-finishes
returns-clause-finishes c = finish_holds
