use Rattle.model_loop.specs.Parts.{One}
use Rattle.row_loop.proofs.StepStates.{awaited_stands, handled_stands, handler_runs_stands, main_done_stands, nothing_made_stands, one_task_stands}
use Rattle.row_loop.proofs.StepStates.{paused_stands, running_must_cancel_never, running_must_cancel_once, running_must_cancel_twice, running_over_none_stands}
use Rattle.row_loop.proofs.StepStates.{running_stands, sleeping_stands, three_timers_stands, two_due_stands, woken_and_must_cancel_stands, woken_at_once_stands}
use Rattle.row_loop.proofs.sound.steps_begin_in_sound_states.Goals as goal

pub returns-clause-nothing_made : goal.returns-clause-nothing_made
returns-clause-nothing_made c = nothing_made_stands

pub returns-clause-one_task : goal.returns-clause-one_task
returns-clause-one_task c = one_task_stands

pub returns-clause-running : goal.returns-clause-running
returns-clause-running c = running_stands

pub returns-clause-must_cancel_once : goal.returns-clause-must_cancel_once
returns-clause-must_cancel_once c = running_must_cancel_once One

pub returns-clause-must_cancel_twice : goal.returns-clause-must_cancel_twice
returns-clause-must_cancel_twice c = running_must_cancel_twice One

pub returns-clause-must_cancel_uncounted : goal.returns-clause-must_cancel_uncounted
returns-clause-must_cancel_uncounted c = running_must_cancel_never

pub returns-clause-sleeping : goal.returns-clause-sleeping
returns-clause-sleeping c = sleeping_stands

pub returns-clause-woken_at_once : goal.returns-clause-woken_at_once
returns-clause-woken_at_once c = woken_at_once_stands

pub returns-clause-woken_and_must_cancel : goal.returns-clause-woken_and_must_cancel
returns-clause-woken_and_must_cancel c = woken_and_must_cancel_stands

pub returns-clause-paused : goal.returns-clause-paused
returns-clause-paused c = paused_stands

pub returns-clause-over_none : goal.returns-clause-over_none
returns-clause-over_none c = running_over_none_stands

pub returns-clause-awaited : goal.returns-clause-awaited
returns-clause-awaited c = awaited_stands

pub returns-clause-handled : goal.returns-clause-handled
returns-clause-handled c = handled_stands

pub returns-clause-handler_runs : goal.returns-clause-handler_runs
returns-clause-handler_runs c = handler_runs_stands

pub returns-clause-timers : goal.returns-clause-timers
returns-clause-timers c = three_timers_stands

pub returns-clause-due : goal.returns-clause-due
returns-clause-due c = two_due_stands

pub returns-clause-main_done : goal.returns-clause-main_done
returns-clause-main_done c = main_done_stands
