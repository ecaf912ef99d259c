use Rattle.law_runs.proofs.Turns.{turn-had, run-asks}
use Rattle.law_reach.proofs.Turning.{turn_asks}
use Rattle.law_runs.proofs.bounds.asks_are_bounded.Goals as goal

pub returns-clause-turn : goal.returns-clause-turn
returns-clause-turn g c = turn_asks

pub returns-clause-had : goal.returns-clause-had
returns-clause-had g c = turn-had

pub returns-clause-run : goal.returns-clause-run
returns-clause-run g c = run-asks
