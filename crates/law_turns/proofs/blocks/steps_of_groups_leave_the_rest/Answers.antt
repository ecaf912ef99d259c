use Rattle.std.proofs.Common.{false, refl, Some, None}
use Rattle.std.proofs.lemmas.Bool.{eq-eqb}
use Rattle.law_turns.proofs.Loops.{create_loop, child_done_loop}
use Rattle.law_turns.proofs.Exits.{exit_begin_loop, exit_woken_loop}
use Rattle.law_turns.proofs.blocks.steps_of_groups_leave_the_rest.Goals as goal

pub returns-clause-create : goal.returns-clause-create
returns-clause-create c = λ test nothing excused id l. create_loop test nothing excused None None None id l

pub returns-clause-told : goal.returns-clause-told
returns-clause-told c = λ test nothing excused id task l. child_done_loop test nothing false excused None None None id task l

pub returns-clause-begins : goal.returns-clause-begins
returns-clause-begins c = λ test nothing excused raised id l. exit_begin_loop test nothing false excused None (Some id) id (eq-eqb id id refl) raised l

pub returns-clause-woken : goal.returns-clause-woken
returns-clause-woken c = λ test nothing excused input id l. exit_woken_loop test nothing false excused None None id input l
