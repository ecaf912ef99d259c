use Rattle.law_promises.proofs.MustCancelStays.{child_done_keeps, create_keeps}
use Rattle.law_promises.proofs.TakingBack.{exit_begin_keeps, exit_woken_keeps}
use Rattle.law_promises.proofs.staying.groups_clear_no_must_cancel.Goals as goal

pub returns-clause-create : goal.returns-clause-create
returns-clause-create c = create_keeps

pub returns-clause-child_done : goal.returns-clause-child_done
returns-clause-child_done c = child_done_keeps

pub returns-clause-exit_begin : goal.returns-clause-exit_begin
returns-clause-exit_begin c = exit_begin_keeps

pub returns-clause-exit_woken : goal.returns-clause-exit_woken
returns-clause-exit_woken c = exit_woken_keeps
