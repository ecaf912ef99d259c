use Rattle.law_changes.proofs.LoopRows.{child_done_row, create_row, enter_group_row, enter_row, exit_begin_row, exit_timeout_row, exit_woken_row}
use Rattle.law_changes.proofs.LoopRows.{fire_row, reschedule_row}
use Rattle.law_changes.proofs.rows.what_blocks_do_is_a_row_of_changes.Goals as goal

pub returns-clause-enter : goal.returns-clause-enter
returns-clause-enter c = enter_row

pub returns-clause-reschedule : goal.returns-clause-reschedule
returns-clause-reschedule c = reschedule_row

pub returns-clause-fire : goal.returns-clause-fire
returns-clause-fire c = fire_row

pub returns-clause-leave : goal.returns-clause-leave
returns-clause-leave c = exit_timeout_row

pub returns-clause-enter_group : goal.returns-clause-enter_group
returns-clause-enter_group c = enter_group_row

pub returns-clause-create : goal.returns-clause-create
returns-clause-create c = create_row

pub returns-clause-child_done : goal.returns-clause-child_done
returns-clause-child_done c = child_done_row

pub returns-clause-exit : goal.returns-clause-exit
returns-clause-exit c = exit_begin_row

pub returns-clause-woken : goal.returns-clause-woken
returns-clause-woken c = exit_woken_row
