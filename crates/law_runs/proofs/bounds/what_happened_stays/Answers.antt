use Rattle.law_runs.proofs.Turns.{turn-grows, run-grows}
use Rattle.law_runs.proofs.bounds.what_happened_stays.Goals as goal

pub returns-clause-turn : goal.returns-clause-turn
returns-clause-turn g c = turn-grows

pub returns-clause-run : goal.returns-clause-run
returns-clause-run g c = run-grows
