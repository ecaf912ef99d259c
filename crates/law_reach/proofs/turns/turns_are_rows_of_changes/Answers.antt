use Rattle.law_reach.proofs.Running.{effect_goes}
use Rattle.law_reach.proofs.Turning.{pending_turns, turn_asks, turn_row, turned_row}
use Rattle.law_reach.proofs.turns.turns_are_rows_of_changes.Goals as goal

pub returns-clause-effect : goal.returns-clause-effect
returns-clause-effect g c = effect_goes

pub returns-clause-pending : goal.returns-clause-pending
returns-clause-pending g c = pending_turns

pub returns-clause-turned : goal.returns-clause-turned
returns-clause-turned g c = turned_row

pub returns-clause-turn : goal.returns-clause-turn
returns-clause-turn g c = turn_row

pub returns-clause-asks : goal.returns-clause-asks
returns-clause-asks g c = turn_asks
