use Rattle.row_loop.proofs.TimeoutStates.{alone_due_stands, alone_left_stands, alone_waiting_stands, before_stands, both_due_stands, expiring_alone_stands}
use Rattle.row_loop.proofs.TimeoutStates.{expiring_and_asked_stands, expiring_and_lowered_stands, inner_leaves_stands, outer_fired_stands, outer_leaves_stands}
use Rattle.row_loop.proofs.sound.timeouts_begin_in_sound_states.Goals as goal

pub returns-clause-before : goal.returns-clause-before
returns-clause-before c = before_stands

pub returns-clause-both_due : goal.returns-clause-both_due
returns-clause-both_due c = both_due_stands

pub returns-clause-outer_fired : goal.returns-clause-outer_fired
returns-clause-outer_fired c = outer_fired_stands

pub returns-clause-inner_leaves : goal.returns-clause-inner_leaves
returns-clause-inner_leaves c = inner_leaves_stands

pub returns-clause-outer_leaves : goal.returns-clause-outer_leaves
returns-clause-outer_leaves c = outer_leaves_stands

pub returns-clause-due : goal.returns-clause-due
returns-clause-due c = alone_due_stands

pub returns-clause-left : goal.returns-clause-left
returns-clause-left c = alone_left_stands

pub returns-clause-waiting : goal.returns-clause-waiting
returns-clause-waiting c = alone_waiting_stands

pub returns-clause-expiring : goal.returns-clause-expiring
returns-clause-expiring c = expiring_alone_stands

pub returns-clause-asked_too : goal.returns-clause-asked_too
returns-clause-asked_too c = expiring_and_asked_stands

pub returns-clause-lowered : goal.returns-clause-lowered
returns-clause-lowered c = expiring_and_lowered_stands
