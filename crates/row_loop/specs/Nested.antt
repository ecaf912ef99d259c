-- Two timeouts of task 0, one in the other, with the same deadline. Times are in milliseconds. The states are of profile 1.
use Rattle.std.specs.Prelude.{ℕ, Bool, true, List, [], ◌∷◌, Option, Some, None}
use Rattle.model_value.specs.declared.action.Action.TheVariants.{Wakeup, Fires}
use Rattle.model_loop.specs.Parts.{Plain, OfTask, One, Handle, Timer, Parts}
use Rattle.model_loop.specs.Ledger.{LedgerEntry, Asked, Raised, Took, ByScript, ByTimeout}
use Rattle.model_loop.specs.Loop.{TimeoutState, Active, Expiring, Finished, Timeout, Loop}
use Rattle.model_loop.specs.Timeouts.{Left}
use Rattle.row_loop.specs.Made.{waiting, cancelled, waits, waits_must_cancel, free, handle, dead, timer, parts_of}

abbrev pub timed : TimeoutState → Option ℕ → Timeout
timed state tag = record { state = state; task = 0; stored = 0; tag = tag }

abbrev pub loop_of : Parts → List Timeout → List LedgerEntry → Loop
loop_of parts timeouts ledger = record { parts = parts; timeouts = timeouts; groups = []; ledger = ledger; profile = One }

-- task 0 runs at time 0
abbrev pub before : Loop
before = loop_of (parts_of (waiting (OfTask 0) [] ∷ []) (free 0 0 ∷ []) [] 1) [] []

-- both blocks are entered, with a delay of 10
abbrev pub entered : Loop
entered =
    loop_of
    (record (parts_of (waiting (OfTask 0) [] ∷ []) (free 0 0 ∷ []) [] 1) {
      next_tag = 3;
      timers = timer 10 1 (Fires 0) ∷ timer 10 2 (Fires 1) ∷ [];
    })
    (timed Active (Some 1) ∷ timed Active (Some 2) ∷ []) []

abbrev pub fires_inner : Handle
fires_inner = handle 2 2 (Fires 1)

-- It is time 10: the task waits for future 1, and both handles fell due.
abbrev pub both_due : Loop
both_due =
    loop_of
    (record (parts_of (waiting (OfTask 0) [] ∷ waiting Plain (Wakeup 0 ∷ []) ∷ []) (waits 0 1 0 ∷ []) (handle 1 1 (Fires 0) ∷ fires_inner ∷ []) 3) {
      time = 10;
    })
    (timed Active (Some 1) ∷ timed Active (Some 2) ∷ []) []

-- the outer one fired: the future is cancelled
abbrev pub outer_fired : Loop
outer_fired =
    loop_of
    (record (parts_of (waiting (OfTask 0) [] ∷ cancelled Plain ∷ []) (waits 0 1 1 ∷ []) (fires_inner ∷ handle 3 3 (Wakeup 0) ∷ []) 4) { time = 10 })
    (timed Expiring None ∷ timed Active (Some 2) ∷ []) (Asked (ByTimeout 0) ∷ Raised 0 (ByTimeout 0) ∷ [])

abbrev pub both_asked : List LedgerEntry
both_asked = Asked (ByTimeout 0) ∷ Raised 0 (ByTimeout 0) ∷ Asked (ByTimeout 1) ∷ Raised 0 (ByTimeout 1) ∷ []

-- the inner one fired too: the future is done, so the task must cancel
abbrev pub both_fired : Loop
both_fired =
    loop_of
    (record (parts_of (waiting (OfTask 0) [] ∷ cancelled Plain ∷ []) (waits_must_cancel 0 1 2 ∷ []) (handle 3 3 (Wakeup 0) ∷ []) 4) { time = 10 })
    (timed Expiring None ∷ timed Expiring None ∷ []) both_asked

-- the task's step began, with a throw of CancelledError, and it counts so many cancels
abbrev pub stepping : ℕ → TimeoutState → TimeoutState → List LedgerEntry → Loop
stepping count outer inner ledger =
    loop_of
    (record (parts_of (waiting (OfTask 0) [] ∷ cancelled Plain ∷ []) (free 0 count ∷ []) [] 4) { time = 10 })
    (timed outer None ∷ timed inner None ∷ []) ledger

abbrev pub inner_took : List LedgerEntry
inner_took = Took 0 (ByTimeout 1) true ∷ []

abbrev pub outer_took : List LedgerEntry
outer_took = Took 0 (ByTimeout 0) true ∷ []

-- ---- one timeout, of task 0, which runs at time 10
abbrev pub alone : TimeoutState → Option ℕ → List Handle → List Timer → ℕ → ℕ → Loop
alone state tag pending timers next_stamp next_tag =
    loop_of
    (record {
      time = 10;
      next_stamp = next_stamp;
      next_tag = next_tag;
      pending = pending;
      timers = timers;
      futures = waiting (OfTask 0) [] ∷ [];
      tasks = free 0 0 ∷ [];
    })
    (timed state tag ∷ []) []

-- its deadline came, and its handle is pending
abbrev pub alone_due : Loop
alone_due = alone Active (Some 1) (handle 2 1 (Fires 0) ∷ []) [] 3 3

-- a later deadline, one that is over, or none; the old handle is dead
abbrev pub alone_later : Loop
alone_later = alone Active (Some 3) (dead 2 1 (Fires 0) ∷ []) (timer 11 3 (Fires 0) ∷ []) 3 4

abbrev pub alone_soon : Loop
alone_soon = alone Active (Some 3) (dead 2 1 (Fires 0) ∷ handle 3 3 (Fires 0) ∷ []) [] 4 4

abbrev pub alone_never : Loop
alone_never = alone Active None (dead 2 1 (Fires 0) ∷ []) [] 3 3

abbrev pub alone_left : Loop
alone_left = alone Finished None (dead 2 1 (Fires 0) ∷ []) [] 3 3

-- a timer that is given up is gone
abbrev pub alone_waiting : Loop
alone_waiting = alone Active (Some 1) [] (timer 30 1 (Fires 0) ∷ []) 2 3

abbrev pub alone_waited : Loop
alone_waited = alone Finished None [] [] 2 3

-- ---- It fired while the task's step was pending, which has begun since. The task counts so many cancels.
abbrev pub alone_expiring : (count : ℕ) → List LedgerEntry → Loop
alone_expiring count ledger =
    loop_of
    (record {
      time = 10;
      next_stamp = 4;
      next_tag = 4;
      pending = [];
      timers = [];
      futures = waiting (OfTask 0) [] ∷ [];
      tasks = free 0 count ∷ [];
    })
    (timed Expiring None ∷ []) ledger

-- that of the timeout alone; one before for which the task itself had asked; and none, where the script took that back
abbrev pub expiring_alone : Loop
expiring_alone = alone_expiring 1 (Asked (ByTimeout 0) ∷ Raised 0 (ByTimeout 0) ∷ [])

abbrev pub expiring_and_asked : Loop
expiring_and_asked =
    alone_expiring 2 (Asked (ByScript 0) ∷ Raised 0 (ByScript 0) ∷ Asked (ByTimeout 0) ∷ Raised 0 (ByTimeout 0) ∷ [])

abbrev pub expiring_and_lowered : Loop
expiring_and_lowered = alone_expiring 0 (Asked (ByTimeout 0) ∷ Raised 0 (ByTimeout 0) ∷ Took 0 (ByScript 0) true ∷ [])

-- a block that was left
abbrev pub left : Bool → Loop → Left
left timed_out l = record { loop = l; timed_out = timed_out }
