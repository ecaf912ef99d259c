use Rattle.model_loop.specs.Parts.{One}
use Rattle.row_loop.proofs.GroupStates.{all_woken_stands, asked_body_stands, both_failed_stands, cancelled_body_stands, child_failed_stands, in_block_stands}
use Rattle.row_loop.proofs.GroupStates.{last_was_told_stands, parent_with_child_stands, parent_woken_stands, three_children_stands, told_nothing_stands}
use Rattle.row_loop.proofs.GroupStates.{told_one_stands, unentered_stands}
use Rattle.row_loop.proofs.sound.groups_begin_in_sound_states.Goals as goal

pub returns-clause-unentered : goal.returns-clause-unentered
returns-clause-unentered c = unentered_stands

pub returns-clause-in_block : goal.returns-clause-in_block
returns-clause-in_block c = in_block_stands

pub returns-clause-with_child : goal.returns-clause-with_child
returns-clause-with_child c = parent_with_child_stands One

pub returns-clause-last_was_told : goal.returns-clause-last_was_told
returns-clause-last_was_told c = last_was_told_stands

pub returns-clause-child_failed : goal.returns-clause-child_failed
returns-clause-child_failed c = child_failed_stands One

pub returns-clause-parent_woken : goal.returns-clause-parent_woken
returns-clause-parent_woken c = parent_woken_stands One

pub returns-clause-both_failed : goal.returns-clause-both_failed
returns-clause-both_failed c = both_failed_stands

pub returns-clause-told_nothing : goal.returns-clause-told_nothing
returns-clause-told_nothing c = told_nothing_stands

pub returns-clause-told_one : goal.returns-clause-told_one
returns-clause-told_one c = told_one_stands

pub returns-clause-all_woken : goal.returns-clause-all_woken
returns-clause-all_woken c = all_woken_stands

pub returns-clause-cancelled_body : goal.returns-clause-cancelled_body
returns-clause-cancelled_body c = cancelled_body_stands One

pub returns-clause-asked_body : goal.returns-clause-asked_body
returns-clause-asked_body c = asked_body_stands One

pub returns-clause-three_children : goal.returns-clause-three_children
returns-clause-three_children c = three_children_stands
