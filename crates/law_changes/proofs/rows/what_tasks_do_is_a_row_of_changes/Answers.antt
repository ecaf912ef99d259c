use Rattle.law_changes.proofs.LoopRows.{each_row, end_row, suspend_row}
use Rattle.law_changes.proofs.PartsRows.{begin_row, cancel_row, finish_row}
use Rattle.law_changes.proofs.rows.what_tasks_do_is_a_row_of_changes.Goals as goal

pub returns-clause-cancel : goal.returns-clause-cancel
returns-clause-cancel c = cancel_row

pub returns-clause-begin : goal.returns-clause-begin
returns-clause-begin c = begin_row

pub returns-clause-finish : goal.returns-clause-finish
returns-clause-finish c = finish_row

pub returns-clause-wait : goal.returns-clause-wait
returns-clause-wait c = suspend_row

pub returns-clause-each : goal.returns-clause-each
returns-clause-each c = each_row

pub returns-clause-end : goal.returns-clause-end
returns-clause-end c = end_row
