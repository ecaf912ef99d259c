-- Where the two profiles differ: a group that takes its request back at the beginning of its exit or at the end of it, and an
-- `uncancel` that lowers a count to 0. A state is of profile 1 unless it says so.
use Rattle.std.specs.Prelude.{ℕ, true, List, [], ◌∷◌, ◌++◌, Option, Some, None}
use Rattle.model_value.specs.declared.outcome.Outcome.TheVariants.{Failed}
use Rattle.model_value.specs.declared.action.Action.TheVariants.{Step, GroupDone}
use Rattle.model_value.specs.Value.{Exc}
use Rattle.model_loop.specs.Parts.{Plain, OfTask, Two, Future, Task, Handle}
use Rattle.model_loop.specs.Ledger.{LedgerEntry, Asked, Raised, Took, Began, ByScript, ByGroup, ByAbort, ByTimeout}
use Rattle.model_loop.specs.Loop.{TimeoutState, Expiring, Expired, Group, Loop}
use Rattle.model_loop.specs.Tasks.{cancelled_error}
use Rattle.row_loop.specs.Family.{a, in_block, loop_of as family_of, parent_asked}
use Rattle.row_loop.specs.Made.{waiting, ended, cancelled, resolved, free, free_must_cancel, handle, parts_of}
use Rattle.row_loop.specs.Nested.{loop_of as timed_of, timed}
use Rattle.row_loop.specs.Standing.{under}

-- ---- one task failed while the exit waited for it: the end of the exit takes the request back
abbrev pub failure_taken_back : Loop
failure_taken_back =
    under Two (family_of
    (parts_of (waiting (OfTask 0) [] ∷ ended (OfTask 1) (Failed a) ∷ resolved Plain ∷ []) (free 0 0 ∷ free 1 0 ∷ []) [] 4)
    (record (in_block (1 ∷ [])) {
      exiting = true;
      ended = true;
      aborting = true;
      requested = true;
      children = [];
      errors = a ∷ [];
      exit_future = None;
    })
    (parent_asked ++ Took 0 (ByGroup 0) true ∷ []))

-- ---- Task 1 failed while the body waited for future 3. The group cancelled task 2, which caught that and goes on, and asked for
-- the parent's cancel, which is thrown into the body.
abbrev pub one_asked : List LedgerEntry
one_asked = Asked (ByAbort 0) ∷ Raised 2 (ByAbort 0) ∷ Asked (ByGroup 0) ∷ Raised 0 (ByGroup 0) ∷ []

abbrev pub of_two : (others : List Future) → (count : ℕ) → List Handle → (next : ℕ) → Group → List LedgerEntry → Loop
of_two others count pending next group ledger =
    family_of
    (parts_of (waiting (OfTask 0) [] ∷ ended (OfTask 1) (Failed a) ∷ others) (free 0 count ∷ free 1 0 ∷ free 2 1 ∷ []) pending next) group ledger

abbrev pub one_of_two_left : Group
one_of_two_left = record (in_block (1 ∷ 2 ∷ [])) { aborting = true; requested = true; children = 2 ∷ []; errors = a ∷ [] }

abbrev pub child_left : Loop
child_left =
    of_two (waiting (OfTask 2) (GroupDone 0 2 ∷ []) ∷ cancelled Plain ∷ []) 1 (handle 6 6 (Step 2) ∷ []) 7 one_of_two_left one_asked

-- the exit begins, and waits for future 4: it keeps this, and booked that
abbrev pub child_awaited : (count : ℕ) → (kept : Option Exc) → List LedgerEntry → Loop
child_awaited count kept booked =
    of_two (waiting (OfTask 2) (GroupDone 0 2 ∷ []) ∷ cancelled Plain ∷ waiting Plain [] ∷ []) count (handle 6 6 (Step 2) ∷ []) 7
    (record one_of_two_left { exiting = true; body = Some cancelled_error; kept = kept; exit_future = Some 4 }) booked

-- In profile 2 the request stands while it waits. Task 2 returned, and the parent's step began; the parent counts that and what was
-- booked before.
abbrev pub child_over : (count next : ℕ) → List LedgerEntry → Loop
child_over count next before =
    under Two (of_two (resolved (OfTask 2) ∷ cancelled Plain ∷ resolved Plain ∷ []) count [] next
    (record one_of_two_left {
      exiting = true;
      children = [];
      body = Some cancelled_error;
      kept = Some cancelled_error;
      exit_future = Some 4;
    })
    (before ++ one_asked ++ Began 0 ∷ []))

-- it ended, and took the request back; it keeps what it kept where another cancel of the parent is left
abbrev pub child_taken_back : (count next : ℕ) → List LedgerEntry → (kept : Option Exc) → Loop
child_taken_back count next before kept =
    under Two (of_two (resolved (OfTask 2) ∷ cancelled Plain ∷ resolved Plain ∷ []) count [] next
    (record one_of_two_left { exiting = true; ended = true; children = []; body = Some cancelled_error; kept = kept; exit_future = None })
    (before ++ one_asked ++ Began 0 ∷ Took 0 (ByGroup 0) true ∷ []))

-- ---- A timeout fired. The script took that cancel back, and then the task asked for its own, which waits for its next step.
abbrev pub asked_anew : List LedgerEntry
asked_anew = Asked (ByTimeout 0) ∷ Raised 0 (ByTimeout 0) ∷ Took 0 (ByScript 0) true ∷ Asked (ByScript 0) ∷ Raised 0 (ByScript 0) ∷ []

abbrev pub timeout_over : Task → TimeoutState → List LedgerEntry → Loop
timeout_over task state ledger =
    timed_of
    (record {
      time = 10;
      next_stamp = 4;
      next_tag = 4;
      pending = [];
      timers = [];
      futures = waiting (OfTask 0) [] ∷ [];
      tasks = task ∷ [];
    })
    (timed state None ∷ []) ledger

abbrev pub must_cancel_at_exit : Loop
must_cancel_at_exit = timeout_over (free_must_cancel 0 1) Expiring asked_anew

-- its exit took one request back, though a script had taken the timeout's, and no other is left
abbrev pub must_cancel_left : Loop
must_cancel_left = timeout_over (free_must_cancel 0 0) Expired (asked_anew ++ Took 0 (ByTimeout 0) true ∷ [])

abbrev pub must_cancel_cleared : Loop
must_cancel_cleared = under Two (timeout_over (free 0 0) Expired (asked_anew ++ Took 0 (ByTimeout 0) true ∷ []))
