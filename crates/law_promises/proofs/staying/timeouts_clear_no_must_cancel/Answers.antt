use Rattle.law_promises.proofs.MustCancelStays.{enter_keeps, fire_keeps, reschedule_keeps}
use Rattle.law_promises.proofs.TakingBack.{exit_keeps}
use Rattle.law_promises.proofs.staying.timeouts_clear_no_must_cancel.Goals as goal

pub returns-clause-enter : goal.returns-clause-enter
returns-clause-enter c = enter_keeps

pub returns-clause-reschedule : goal.returns-clause-reschedule
returns-clause-reschedule c = reschedule_keeps

pub returns-clause-fire : goal.returns-clause-fire
returns-clause-fire c = fire_keeps

pub returns-clause-exit : goal.returns-clause-exit
returns-clause-exit c = exit_keeps
