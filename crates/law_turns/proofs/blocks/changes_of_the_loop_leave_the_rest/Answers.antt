use Rattle.law_turns.proofs.Loops.{change_loop, row_loop}
use Rattle.law_turns.proofs.blocks.changes_of_the_loop_leave_the_rest.Goals as goal

pub returns-clause-change : goal.returns-clause-change
returns-clause-change c = change_loop

pub returns-clause-row : goal.returns-clause-row
returns-clause-row c test nothing grown excused timeout group begun l m row =
    row_loop test nothing grown excused timeout group begun row
