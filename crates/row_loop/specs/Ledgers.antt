-- Requests that were made, and what a run's end does to three tasks: task 0 is done, task 1 waits for future 3, and task 2
-- awaits task 1.
use Rattle.std.specs.Prelude.{Bool, List, [], ◌∷◌}
use Rattle.model_value.specs.declared.action.Action.TheVariants.{Wakeup}
use Rattle.model_loop.specs.Parts.{Plain, OfTask, One, Parts}
use Rattle.model_loop.specs.Ledger.{LedgerEntry, Asked, Raised, ByEnd, Requested}
use Rattle.model_loop.specs.Loop.{Loop}
use Rattle.row_loop.specs.Made.{waiting, cancelled, resolved, waits, waits_must_cancel, free, handle, parts_of}

-- a request that was made
abbrev pub requested : Bool → Parts → List LedgerEntry → Requested
requested answer parts entries = record { booked = record { parts = parts; entries = entries }; answer = answer }

abbrev pub main_done : Loop
main_done =
    record {
      parts = parts_of
          (resolved (OfTask 0) ∷ waiting (OfTask 1) (Wakeup 2 ∷ []) ∷ waiting (OfTask 2) [] ∷ waiting Plain (Wakeup 1 ∷ []) ∷ [])
          (free 0 0 ∷ waits 1 3 0 ∷ waits 2 1 0 ∷ [])
          [] 3;
      timeouts = [];
      groups = [];
      ledger = [];
      profile = One;
    }

-- Task 1 is asked first. Task 2's request goes on to task 1, whose future 3 is done by then: it must cancel, and it is counted
-- again.
abbrev pub all_cancelled : Loop
all_cancelled =
    record {
      parts = parts_of
          (resolved (OfTask 0) ∷ waiting (OfTask 1) (Wakeup 2 ∷ []) ∷ waiting (OfTask 2) [] ∷ cancelled Plain ∷ [])
          (free 0 0 ∷ waits_must_cancel 1 3 2 ∷ waits 2 1 1 ∷ [])
          (handle 3 3 (Wakeup 1) ∷ []) 4;
      timeouts = [];
      groups = [];
      ledger = Asked ByEnd ∷ Raised 1 ByEnd ∷ Asked ByEnd ∷ Raised 2 ByEnd ∷ Raised 1 ByEnd ∷ [];
      profile = One;
    }
