use Rattle.model_loop.specs.Parts.{Two}
use Rattle.row_loop.proofs.GroupStates.{asked_body_stands, asked_child_over_stands, cancelled_body_stands, child_failed_stands, child_left_stands}
use Rattle.row_loop.proofs.GroupStates.{child_over_stands, parent_with_child_stands, parent_woken_stands}
use Rattle.row_loop.proofs.StepStates.{running_must_cancel_once, running_must_cancel_twice}
use Rattle.row_loop.proofs.TimeoutStates.{must_cancel_at_exit_stands}
use Rattle.row_loop.proofs.sound.profile_two_begins_in_sound_states.Goals as goal

pub returns-clause-must_cancel_once : goal.returns-clause-must_cancel_once
returns-clause-must_cancel_once c = running_must_cancel_once

pub returns-clause-must_cancel_twice : goal.returns-clause-must_cancel_twice
returns-clause-must_cancel_twice c = running_must_cancel_twice

pub returns-clause-with_child : goal.returns-clause-with_child
returns-clause-with_child c = parent_with_child_stands Two

pub returns-clause-child_failed : goal.returns-clause-child_failed
returns-clause-child_failed c = child_failed_stands Two

pub returns-clause-parent_woken : goal.returns-clause-parent_woken
returns-clause-parent_woken c = parent_woken_stands Two

pub returns-clause-cancelled_body : goal.returns-clause-cancelled_body
returns-clause-cancelled_body c = cancelled_body_stands Two

pub returns-clause-asked_body : goal.returns-clause-asked_body
returns-clause-asked_body c = asked_body_stands Two

pub returns-clause-child_left : goal.returns-clause-child_left
returns-clause-child_left c = child_left_stands

pub returns-clause-child_over : goal.returns-clause-child_over
returns-clause-child_over c = child_over_stands

pub returns-clause-asked_child_over : goal.returns-clause-asked_child_over
returns-clause-asked_child_over c = asked_child_over_stands

pub returns-clause-at_exit : goal.returns-clause-at_exit
returns-clause-at_exit c = must_cancel_at_exit_stands
