use Rattle.law_steps.proofs.Passing.{settle_no_cycle, begin_no_cycle, finish_no_cycle}
use Rattle.law_steps.proofs.cycles.steps_make_no_cycle.Goals as goal

pub returns-clause-settle : goal.returns-clause-settle
returns-clause-settle c = settle_no_cycle

pub returns-clause-begin : goal.returns-clause-begin
returns-clause-begin c = begin_no_cycle

pub returns-clause-finish : goal.returns-clause-finish
returns-clause-finish c = finish_no_cycle
