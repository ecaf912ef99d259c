use Rattle.law_turns.proofs.Frame.{change_leaves, row_leaves}
use Rattle.law_turns.proofs.tasks.changes_leave_the_rest.Goals as goal

pub returns-clause-change : goal.returns-clause-change
returns-clause-change c = change_leaves

pub returns-clause-row : goal.returns-clause-row
returns-clause-row c test grown excused p q row = row_leaves test grown excused row
