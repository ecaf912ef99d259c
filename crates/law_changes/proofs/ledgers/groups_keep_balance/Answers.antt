use Rattle.law_changes.proofs.LoopBalance.{create_keeps, child_done_keeps, exit_begin_keeps, exit_woken_keeps, cancel_everything_keeps}
use Rattle.law_changes.proofs.ledgers.groups_keep_balance.Goals as goal

pub returns-clause-create : goal.returns-clause-create
returns-clause-create c = create_keeps

pub returns-clause-child_done : goal.returns-clause-child_done
returns-clause-child_done c = child_done_keeps

pub returns-clause-exit_begin : goal.returns-clause-exit_begin
returns-clause-exit_begin c = exit_begin_keeps

pub returns-clause-exit_woken : goal.returns-clause-exit_woken
returns-clause-exit_woken c = exit_woken_keeps

pub returns-clause-end_of_run : goal.returns-clause-end_of_run
returns-clause-end_of_run c = cancel_everything_keeps
