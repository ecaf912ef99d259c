-- States before and after parts of a step.
use Rattle.std.specs.Prelude.{ℕ, false, List, [], ◌∷◌}
use Rattle.model_value.specs.Action.{Action}
use Rattle.model_value.specs.declared.action.Action.TheVariants.{Step, Wakeup, MainDone, HandlerDone, SleepDone}
use Rattle.model_value.specs.Value.{Outcome}
use Rattle.model_loop.specs.Parts.{Plain, OfTask, Many, Future, Handle, Parts}
use Rattle.row_loop.specs.Made.{waiting, ended, cancelled, resolved, waits, waits_must_cancel, free, free_must_cancel, handle, dead, timer, parts_of}

-- ---- nothing was made yet; then a task, and then a second one
abbrev pub nothing_made : Parts
nothing_made = parts_of [] [] [] 0

abbrev pub one_task : Parts
one_task = parts_of (waiting (OfTask 0) [] ∷ []) (free 0 0 ∷ []) (handle 0 0 (Step 0) ∷ []) 1

abbrev pub two_tasks : Parts
two_tasks =
    parts_of (waiting (OfTask 0) [] ∷ waiting (OfTask 1) [] ∷ []) (free 0 0 ∷ free 1 0 ∷ [])
    (handle 0 0 (Step 0) ∷ handle 1 1 (Step 1) ∷ []) 2

-- ---- task 0 runs, and future 1 is there
abbrev pub running : Parts
running = parts_of (waiting (OfTask 0) (MainDone ∷ []) ∷ waiting Plain [] ∷ []) (free 0 0 ∷ []) [] 1

abbrev pub running_must_cancel : ℕ → Parts
running_must_cancel count = parts_of (waiting (OfTask 0) (MainDone ∷ []) ∷ waiting Plain [] ∷ []) (free_must_cancel 0 count ∷ []) [] 1

-- it waits for future 1
abbrev pub sleeping : Parts
sleeping = parts_of (waiting (OfTask 0) (MainDone ∷ []) ∷ waiting Plain (Wakeup 0 ∷ []) ∷ []) (waits 0 1 0 ∷ []) [] 1

-- must_cancel was set when it waited: future 1 is cancelled at once, and must_cancel has gone on to it
abbrev pub woken_at_once : ℕ → Parts
woken_at_once count =
    parts_of (waiting (OfTask 0) (MainDone ∷ []) ∷ cancelled Plain ∷ []) (waits 0 1 count ∷ []) (handle 1 1 (Wakeup 0) ∷ []) 2

-- must_cancel was set when it waited for a future that stands for none: must_cancel stays
abbrev pub running_over_none : Parts
running_over_none = parts_of (waiting (OfTask 0) [] ∷ waiting (Many [] false) [] ∷ []) (free_must_cancel 0 1 ∷ []) [] 1

abbrev pub waits_for_none : Parts
waits_for_none = parts_of (waiting (OfTask 0) [] ∷ waiting (Many [] false) (Wakeup 0 ∷ []) ∷ []) (waits_must_cancel 0 1 1 ∷ []) [] 1

-- its step began by the handle that was taken out: it waits no more, and need not cancel
abbrev pub begun : ℕ → Parts
begun count = parts_of (waiting (OfTask 0) (MainDone ∷ []) ∷ cancelled Plain ∷ []) (free 0 count ∷ []) [] 2

abbrev pub woken_and_must_cancel : ℕ → Parts
woken_and_must_cancel count =
    parts_of (waiting (OfTask 0) (MainDone ∷ []) ∷ cancelled Plain ∷ []) (waits_must_cancel 0 1 count ∷ []) (handle 1 1 (Wakeup 0) ∷ []) 2

-- its next step is pending
abbrev pub paused : Action → Parts
paused action =
    parts_of (waiting (OfTask 0) (MainDone ∷ []) ∷ waiting Plain [] ∷ []) (free 0 0 ∷ []) (handle 1 1 action ∷ []) 2

-- it ended so; its callbacks are called
abbrev pub ended_as : Outcome → Parts
ended_as outcome =
    parts_of (ended (OfTask 0) outcome ∷ waiting Plain [] ∷ []) (free 0 0 ∷ []) (handle 1 1 MainDone ∷ []) 2

abbrev pub ended_must_cancel_as : Outcome → Parts
ended_must_cancel_as outcome =
    parts_of (ended (OfTask 0) outcome ∷ waiting Plain [] ∷ []) (free_must_cancel 0 1 ∷ []) (handle 1 1 MainDone ∷ []) 2

abbrev pub ended_counted_as : Outcome → Parts
ended_counted_as outcome =
    parts_of (ended (OfTask 0) outcome ∷ waiting Plain [] ∷ []) (free 0 1 ∷ []) (handle 1 1 MainDone ∷ []) 2

-- ---- task 1 waits for task 0, which runs; future 3 stands for future 2 and task 1
abbrev pub awaited : List Handle → ℕ → Parts
awaited pending next =
    parts_of
    (waiting (OfTask 0) (Wakeup 1 ∷ []) ∷ waiting (OfTask 1) [] ∷ waiting Plain [] ∷ waiting (Many (2 ∷ 1 ∷ []) false) [] ∷ [])
    (free 0 0 ∷ waits 1 0 0 ∷ []) pending next

-- ---- task 1 handles connection 0, and what is called when it is done waits for it; then it runs, and has ended
abbrev pub handled : Parts
handled =
    record two_tasks { futures = waiting (OfTask 0) [] ∷ waiting (OfTask 1) (HandlerDone 0 1 ∷ []) ∷ [] }

abbrev pub handler_runs : Parts
handler_runs =
    parts_of (waiting (OfTask 0) [] ∷ waiting (OfTask 1) (HandlerDone 0 1 ∷ []) ∷ []) (free 0 0 ∷ free 1 0 ∷ [])
    (handle 2 2 (Step 0) ∷ []) 3

abbrev pub handler_ended : Outcome → Parts
handler_ended outcome =
    parts_of (waiting (OfTask 0) [] ∷ ended (OfTask 1) outcome ∷ []) (free 0 0 ∷ free 1 0 ∷ [])
    (handle 2 2 (Step 0) ∷ handle 3 3 (HandlerDone 0 1) ∷ []) 4

-- ---- Handles and timers. Main is done, and three ends of sleeps wait for their times.
abbrev pub sleepers : List Future
sleepers = resolved (OfTask 0) ∷ waiting Plain [] ∷ waiting Plain [] ∷ waiting Plain [] ∷ []

abbrev pub three_timers : Parts
three_timers =
    record (parts_of sleepers (free 0 0 ∷ []) (handle 1 4 MainDone ∷ []) 5) {
      time = 20;
      next_stamp = 2;
      timers = timer 20 1 (SleepDone 0 1) ∷ timer 30 2 (SleepDone 0 2) ∷ timer 10 3 (SleepDone 0 3) ∷ [];
    }

-- the two whose time has come, by deadline, each under its own tag
abbrev pub two_due : Parts
two_due =
    record (parts_of sleepers (free 0 0 ∷ []) (handle 1 4 MainDone ∷ handle 2 3 (SleepDone 0 3) ∷ handle 3 1 (SleepDone 0 1) ∷ []) 5) {
      time = 20;
      next_stamp = 4;
      timers = timer 30 2 (SleepDone 0 2) ∷ [];
    }

-- one revoked while it is a timer, one while its handle is pending
abbrev pub two_revoked : Parts
two_revoked =
    record (parts_of sleepers (free 0 0 ∷ []) (handle 1 4 MainDone ∷ handle 2 3 (SleepDone 0 3) ∷ dead 3 1 (SleepDone 0 1) ∷ []) 5) {
      time = 20;
      next_stamp = 4;
      timers = [];
    }
