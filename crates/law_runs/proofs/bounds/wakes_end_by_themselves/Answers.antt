use Rattle.std.proofs.Common.{arith}
use Rattle.law_runs.proofs.Waking.{woken_ends, nothing_falls}
use Rattle.law_runs.proofs.bounds.wakes_end_by_themselves.Goals as goal

pub returns-clause-within : goal.returns-clause-within
returns-clause-within g c = λ added task more key input s falls. woken_ends added falls task _ more key input s (omega arith)

pub returns-clause-nothing : goal.returns-clause-nothing
returns-clause-nothing g c = nothing_falls
