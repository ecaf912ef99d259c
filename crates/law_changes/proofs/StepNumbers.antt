-- The parts of a step keep what is numbered.
use Rattle.std.proofs.Common.{ℕ, None, Result, Ok, Err}
use Rattle.model_value.specs.declared.action.Action.TheVariants.{Step, StepInCycle, Wakeup}
use Rattle.model_value.specs.Input.{Input}
use Rattle.model_value.specs.Value.{Value, Exc}
use Rattle.model_loop.specs.Parts.{Parts}
use Rattle.model_loop.specs.Tasks.{set_waiter, clear_must_cancel, begin_step, pause, finish}
use Rattle.model_loop.specs.Suspend.{suspend}
use Rattle.model_loop.specs.Numbered.{IsNumbered}
use Rattle.law_changes.specs.Blocks.{OfWait, cycles, registers_step, begins_wait, in_wait, clears_must_cancel}
use Rattle.law_changes.specs.Changes.{PartsChange, made_of_parts}
use Rattle.law_changes.proofs.Folds.{keep}
use Rattle.law_changes.proofs.PartsRows.{suspend_in}
use Rattle.law_changes.proofs.CancelNumbers.{request_numbers}
use Rattle.law_changes.proofs.Numbering.{soon_numbers, register_numbers, settle_numbers, change_task_numbers}

pub begin_step_numbers : (id : ℕ) (input : Input) (p : Parts) → IsNumbered p → IsNumbered (begin_step id input p).parts
begin_step_numbers id input p is = change_task_numbers id _ (set_waiter id None p) (change_task_numbers id _ p is)

pub pause_numbers : (id : ℕ) (p : Parts) → IsNumbered p → IsNumbered (pause id p)
pause_numbers id p is = soon_numbers (Step id) p is

pub finish_numbers : (id : ℕ) (end : Result Value Exc) (p : Parts) → IsNumbered p → IsNumbered (finish id end p)
finish_numbers id (Ok value) p is = settle_numbers _ _ (clear_must_cancel id p) (change_task_numbers id _ p is)
finish_numbers id (Err fault) p is = settle_numbers _ _ p is

wait_numbers : (task on : ℕ) (change : PartsChange) (p : Parts) → OfWait task on change p → IsNumbered p → IsNumbered (made_of_parts change p)
wait_numbers task on _ p (cycles why) is = soon_numbers (StepInCycle task why) p is
wait_numbers task on _ p registers_step is = register_numbers on (Wakeup task) p is
wait_numbers task on _ p begins_wait is = change_task_numbers task _ p is
wait_numbers task on change p (in_wait it) is = request_numbers change p it is
wait_numbers task on _ p clears_must_cancel is = change_task_numbers task _ p is

pub suspend_numbers : (task on : ℕ) (p : Parts) → IsNumbered p → IsNumbered (suspend task on p).parts
suspend_numbers task on p = keep IsNumbered (wait_numbers task on) (suspend_in task on p)
