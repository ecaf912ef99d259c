use Rattle.law_changes.proofs.LoopBalance.{enter_timeout_keeps, reschedule_keeps, fire_keeps, exit_timeout_keeps}
use Rattle.law_changes.proofs.ledgers.timeouts_keep_balance.Goals as goal

pub returns-clause-enter : goal.returns-clause-enter
returns-clause-enter c = enter_timeout_keeps

pub returns-clause-reschedule : goal.returns-clause-reschedule
returns-clause-reschedule c = reschedule_keeps

pub returns-clause-fire : goal.returns-clause-fire
returns-clause-fire c = fire_keeps

pub returns-clause-exit : goal.returns-clause-exit
returns-clause-exit c = exit_timeout_keeps
