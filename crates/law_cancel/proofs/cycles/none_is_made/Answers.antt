use Rattle.law_cancel.proofs.Cycling.{suspend_makes_none, cancel_makes_none}
use Rattle.law_cancel.proofs.cycles.none_is_made.Goals as goal

pub returns-clause-suspend : goal.returns-clause-suspend
returns-clause-suspend c = suspend_makes_none

pub returns-clause-cancel : goal.returns-clause-cancel
returns-clause-cancel c = cancel_makes_none
