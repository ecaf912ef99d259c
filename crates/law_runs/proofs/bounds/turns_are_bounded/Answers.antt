use Rattle.law_runs.proofs.Waking.{nothing_asks}
use Rattle.law_runs.proofs.Turns.{turn-one, turn-had_one, run-bounded}
use Rattle.law_runs.proofs.bounds.turns_are_bounded.Goals as goal

pub returns-clause-one : goal.returns-clause-one
returns-clause-one g c = turn-one

pub returns-clause-most : goal.returns-clause-most
returns-clause-most g c = run-bounded

pub returns-clause-answers : goal.returns-clause-answers
returns-clause-answers g c = turn-had_one

pub returns-clause-nothing : goal.returns-clause-nothing
returns-clause-nothing g c = nothing_asks
