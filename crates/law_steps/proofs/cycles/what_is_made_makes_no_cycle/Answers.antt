use Rattle.law_steps.proofs.Passing.{spawn_no_cycle, make_no_cycle}
use Rattle.law_steps.proofs.cycles.what_is_made_makes_no_cycle.Goals as goal

pub returns-clause-spawn : goal.returns-clause-spawn
returns-clause-spawn c = spawn_no_cycle

pub returns-clause-make : goal.returns-clause-make
returns-clause-make c = λ kind free running excused p is none. make_no_cycle kind free running excused p is none
