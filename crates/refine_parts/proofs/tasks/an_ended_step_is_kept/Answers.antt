use Rattle.refine_parts.proofs.Calls.{kept_pause, kept_suspend, kept_finish}
use Rattle.refine_parts.proofs.Telling.{cycle_kept}
use Rattle.refine_parts.proofs.tasks.an_ended_step_is_kept.Goals as goal

pub returns-clause-pauses : goal.returns-clause-pauses
returns-clause-pauses c = λ t v w p task k became. kept_pause t v w p k task became

pub returns-clause-suspends : goal.returns-clause-suspends
returns-clause-suspends c = λ t v w p task on k became. kept_suspend t v w p k task on became

pub returns-clause-cycle : goal.returns-clause-cycle
returns-clause-cycle c = λ t v p task on k. cycle_kept t v p k task on

pub returns-clause-finishes : goal.returns-clause-finishes
returns-clause-finishes c = λ t v w p task end k became. kept_finish t v w p k task end became
