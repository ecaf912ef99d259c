-- How outcomes are met: by whoever awaits, and by the run. Source: `futures.py`, `result`; `tasks.py`, `__wakeup`;
-- `base_events.py`, `run_until_complete`.
use Rattle.std.specs.Prelude.{ℕ, Bool, ◌&&◌, Option, None, not, if◌then◌else◌}
use Rattle.std.specs.List.{list_all, range_with_len}
use Rattle.std.specs.Option.{option_and_then, option_map_or}
use Rattle.model_value.specs.Input.{Input}
use Rattle.model_value.specs.declared.input.Input.TheVariants.{Send, Throw}
use Rattle.model_value.specs.declared.outcome.Outcome.TheVariants.{Value as Returned, Failed, Cancelled}
use Rattle.model_value.specs.Value.{Nothing, Outcome}
use Rattle.model_wire.specs.Trace.{End}
use Rattle.model_wire.specs.declared.event.End.TheVariants as end
use Rattle.model_loop.specs.Parts.{Parts}
use Rattle.model_loop.specs.Futures.{future_outcome}
use Rattle.model_loop.specs.Tasks.{cancelled_error, future_of, lives, next_task, waiter_of}
use Rattle.model_machine.specs.State.{State}

-- what an outcome is to whoever awaits it
abbrev pub input_of : Outcome → Input
input_of (Returned value) = Send value
input_of (Failed exception) = Throw exception
input_of Cancelled = Throw cancelled_error

-- What a task is woken with: how that ended for which it waits. It waits for something that is done.
abbrev pub woken_with : Parts → ℕ → Input
woken_with p task =
    option_map_or input_of (option_and_then (future_outcome p) (waiter_of p task)) (Send Nothing)

abbrev pub no_task_lives : Parts → Bool
no_task_lives p = list_all (λ task. not (lives p task)) (range_with_len 0 (next_task p))

-- the end of a run whose main ended so
abbrev pub end_of : Outcome → End
end_of (Returned value) = end.Returned value
end_of (Failed exception) = end.Raised exception
end_of Cancelled = end.Cancelled

-- main's outcome, where main's callback ran and no task lives any more; main's task is task 0
abbrev pub finished_as : {S : Type 0} → State S → Option Outcome
finished_as s =
    if s.main_done && no_task_lives s.loop.parts then future_outcome s.loop.parts (future_of s.loop.parts 0) else None
