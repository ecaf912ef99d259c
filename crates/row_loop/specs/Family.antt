-- A task group and its tasks. The group is group 0, and its parent is task 0. The states are of profile 1.
use Rattle.std.specs.Prelude.{ℕ, zero, suc, true, false, List, [], ◌∷◌, ◌++◌, Option, Some, None, codes}
use Rattle.model_value.specs.declared.kind.Kind.TheVariants.{ExceptionGroup}
use Rattle.model_value.specs.declared.outcome.Outcome.TheVariants.{Failed, Cancelled}
use Rattle.model_value.specs.declared.action.Action.TheVariants.{Step, Wakeup, GroupDone}
use Rattle.model_value.specs.Value.{Exc, exc, excs, exc_then, no_excs}
use Rattle.model_loop.specs.Parts.{Plain, OfTask, One, Future, Task, Handle, Parts}
use Rattle.model_loop.specs.Ledger.{LedgerEntry, Asked, Raised, Took, Began, ByScript, ByGroup, ByAbort}
use Rattle.model_loop.specs.Loop.{Group, Loop}
use Rattle.model_loop.specs.Tasks.{cancelled_error}
use Rattle.row_loop.specs.Made.{waiting, ended, cancelled, resolved, waits, waits_must_cancel, free, free_must_cancel, handle, parts_of, value_error}
use Rattle.row_loop.specs.Made.{type_error}

abbrev pub loop_of : Parts → Group → List LedgerEntry → Loop
loop_of parts group ledger = record { parts = parts; timeouts = []; groups = group ∷ []; ledger = ledger; profile = One }

abbrev pub a : Exc
a = value_error (codes "a")

abbrev pub b : Exc
b = value_error (codes "b")

abbrev pub c : Exc
c = type_error (codes "c")

abbrev pub group_error : List Exc → Exc
group_error errors = exc ExceptionGroup (codes "unhandled errors in a TaskGroup") [] (excs errors)

-- ---- an empty group before its block and in it, and with a task
abbrev pub unentered : Group
unentered =
    record {
      parent = 0;
      entered = false;
      exiting = false;
      ended = false;
      aborting = false;
      requested = false;
      children = [];
      made = [];
      errors = [];
      body = None;
      kept = None;
      exit_future = None;
    }

abbrev pub in_block : (children : List ℕ) → Group
in_block children = record unentered { entered = true; children = children; made = children }

abbrev pub parent_alone : Parts
parent_alone = parts_of (waiting (OfTask 0) [] ∷ []) (free 0 0 ∷ []) [] 1

abbrev pub parent_with_child : Parts
parent_with_child =
    parts_of (waiting (OfTask 0) [] ∷ waiting (OfTask 1) (GroupDone 0 1 ∷ []) ∷ []) (free 0 0 ∷ free 1 0 ∷ []) (handle 1 1 (Step 1) ∷ []) 2

-- ---- one task fails while the exit waits for it
abbrev pub waiting_for_child : Loop
waiting_for_child =
    loop_of
    (parts_of (waiting (OfTask 0) [] ∷ waiting (OfTask 1) (GroupDone 0 1 ∷ []) ∷ waiting Plain [] ∷ []) (free 0 0 ∷ free 1 0 ∷ [])
    (handle 1 1 (Step 1) ∷ []) 2)
    (record (in_block (1 ∷ [])) { exiting = true; exit_future = Some 2 }) (Began 0 ∷ [])

-- The task failed, and the group will be told. The parent waits for future 2.
abbrev pub child_failed : Loop
child_failed =
    loop_of
    (parts_of (waiting (OfTask 0) [] ∷ ended (OfTask 1) (Failed a) ∷ waiting Plain (Wakeup 0 ∷ []) ∷ []) (waits 0 2 0 ∷ free 1 0 ∷ [])
    (handle 2 2 (GroupDone 0 1) ∷ []) 3)
    (record (in_block (1 ∷ [])) { exiting = true; exit_future = Some 2 }) (Began 0 ∷ [])

abbrev pub parent_asked : List LedgerEntry
parent_asked = Began 0 ∷ Asked (ByGroup 0) ∷ Raised 0 (ByGroup 0) ∷ []

-- the exit's future is resolved before the parent's cancel is asked for, so the parent must cancel
abbrev pub failure_counted : Loop
failure_counted =
    loop_of
    (parts_of (waiting (OfTask 0) [] ∷ ended (OfTask 1) (Failed a) ∷ resolved Plain ∷ []) (waits_must_cancel 0 2 1 ∷ free 1 0 ∷ [])
    (handle 3 3 (Wakeup 0) ∷ []) 4)
    (record (in_block (1 ∷ [])) {
      exiting = true;
      aborting = true;
      requested = true;
      children = [];
      errors = a ∷ [];
      exit_future = Some 2;
    })
    parent_asked

-- the parent's step began, with a throw of CancelledError
abbrev pub parent_woken : Loop
parent_woken =
    loop_of
    (parts_of (waiting (OfTask 0) [] ∷ ended (OfTask 1) (Failed a) ∷ resolved Plain ∷ []) (free 0 1 ∷ free 1 0 ∷ []) [] 4)
    (record (in_block (1 ∷ [])) {
      exiting = true;
      aborting = true;
      requested = true;
      children = [];
      errors = a ∷ [];
      exit_future = Some 2;
    })
    parent_asked

-- that is dropped, and the count stays raised
abbrev pub failure_left : Loop
failure_left =
    loop_of
    (parts_of (waiting (OfTask 0) [] ∷ ended (OfTask 1) (Failed a) ∷ resolved Plain ∷ []) (free 0 1 ∷ free 1 0 ∷ []) [] 4)
    (record (in_block (1 ∷ [])) {
      exiting = true;
      ended = true;
      aborting = true;
      requested = true;
      children = [];
      errors = a ∷ [];
      exit_future = None;
    })
    parent_asked

-- ---- two tasks failed, and then the body fails before it was told
abbrev pub two_failed : List Future
two_failed = waiting (OfTask 0) [] ∷ ended (OfTask 1) (Failed a) ∷ ended (OfTask 2) (Failed b) ∷ []

abbrev pub three_free : List Task
three_free = free 0 0 ∷ free 1 0 ∷ free 2 0 ∷ []

abbrev pub tells_both : List Handle
tells_both = handle 4 4 (GroupDone 0 1) ∷ handle 5 5 (GroupDone 0 2) ∷ []

abbrev pub both_failed : Loop
both_failed = loop_of (parts_of two_failed three_free tells_both 6) (in_block (1 ∷ 2 ∷ [])) []

-- The body's failure aborts the group: no task lives, so nobody's cancel is asked for. The exit waits for future 3.
abbrev pub body_failed : Loop
body_failed =
    loop_of
    (parts_of (two_failed ++ waiting Plain [] ∷ []) three_free tells_both 6)
    (record (in_block (1 ∷ 2 ∷ [])) { exiting = true; aborting = true; body = Some c; exit_future = Some 3 }) (Began 0 ∷ [])

-- the parent waits, and the group is told of the one failure and of the other
abbrev pub told : (children : List ℕ) (errors : List Exc) (pending : List Handle) (next : ℕ) → Future → Loop
told children errors pending next exit =
    loop_of (parts_of (two_failed ++ exit ∷ []) (waits 0 3 0 ∷ free 1 0 ∷ free 2 0 ∷ []) pending next)
    (record (in_block (1 ∷ 2 ∷ [])) {
      exiting = true;
      aborting = true;
      children = children;
      errors = errors;
      body = Some c;
      exit_future = Some 3;
    })
    (Began 0 ∷ [])

abbrev pub told_nothing : Loop
told_nothing = told (1 ∷ 2 ∷ []) [] tells_both 6 (waiting Plain (Wakeup 0 ∷ []))

abbrev pub tells_second : List Handle
tells_second = handle 5 5 (GroupDone 0 2) ∷ []

abbrev pub told_one : Loop
told_one = told (2 ∷ []) (a ∷ []) tells_second 6 (waiting Plain (Wakeup 0 ∷ []))

abbrev pub told_both : Loop
told_both = told [] (a ∷ b ∷ []) (handle 6 6 (Wakeup 0) ∷ []) 7 (resolved Plain)

-- the exit ends, the parent's step having begun
abbrev pub all_woken : Loop
all_woken =
    loop_of (parts_of (two_failed ++ resolved Plain ∷ []) three_free [] 7)
    (record (in_block (1 ∷ 2 ∷ [])) {
      exiting = true;
      aborting = true;
      children = [];
      errors = a ∷ b ∷ [];
      body = Some c;
      exit_future = Some 3;
    })
    (Began 0 ∷ [])

abbrev pub all_left : Loop
all_left =
    loop_of (parts_of (two_failed ++ resolved Plain ∷ []) three_free [] 7)
    (record (in_block (1 ∷ 2 ∷ [])) {
      exiting = true;
      ended = true;
      aborting = true;
      children = [];
      errors = a ∷ b ∷ c ∷ [];
      body = Some c;
      exit_future = None;
    })
    (Began 0 ∷ [])

-- ---- The one task failed while the body was waiting for future 2, and the group asked for the parent's cancel. The parent
-- counts that and what was booked before.
abbrev pub cancelled_body : (count : ℕ) → List LedgerEntry → Loop
cancelled_body count before =
    loop_of
    (parts_of (waiting (OfTask 0) [] ∷ ended (OfTask 1) (Failed a) ∷ cancelled Plain ∷ []) (free 0 count ∷ free 1 0 ∷ []) [] 6)
    (record (in_block (1 ∷ [])) { aborting = true; requested = true; children = []; errors = a ∷ [] })
    (before ++ Asked (ByGroup 0) ∷ Raised 0 (ByGroup 0) ∷ [])

-- the task had asked for the parent's cancel before, and the body caught that
abbrev pub asked_before : List LedgerEntry
asked_before = Asked (ByScript 1) ∷ Raised 0 (ByScript 1) ∷ []

abbrev pub cancelled_left : (count : ℕ) → List LedgerEntry → Option Exc → Loop
cancelled_left count before kept =
    loop_of
    (parts_of (waiting (OfTask 0) [] ∷ ended (OfTask 1) (Failed a) ∷ cancelled Plain ∷ []) (free 0 count ∷ free 1 0 ∷ []) [] 6)
    (record (in_block (1 ∷ [])) {
      exiting = true;
      ended = true;
      aborting = true;
      requested = true;
      children = [];
      errors = a ∷ [];
      body = Some cancelled_error;
      kept = kept;
    })
    (before ++ Asked (ByGroup 0) ∷ Raised 0 (ByGroup 0) ∷ Began 0 ∷ Took 0 (ByGroup 0) true ∷ [])

-- ---- The exit waits for three tasks, of which task 2 is done already and was not told of, when the parent's cancel, for
-- which task 1 asked, is thrown into it.
abbrev pub parent_cancelled : List LedgerEntry
parent_cancelled = Began 0 ∷ Asked (ByScript 1) ∷ Raised 0 (ByScript 1) ∷ []

abbrev pub three_children : Loop
three_children =
    loop_of
    (parts_of
    (waiting (OfTask 0) [] ∷ waiting (OfTask 1) (GroupDone 0 1 ∷ []) ∷ ended (OfTask 2) Cancelled ∷ waiting (OfTask 3) (GroupDone 0 3 ∷ [])
    ∷ waiting Plain (Wakeup 3 ∷ []) ∷ cancelled Plain ∷ [])
    (free 0 1 ∷ free 1 0 ∷ free 2 0 ∷ waits 3 4 0 ∷ []) (handle 5 5 (Step 1) ∷ handle 6 6 (GroupDone 0 2) ∷ []) 7)
    (record (in_block (1 ∷ 2 ∷ 3 ∷ [])) { exiting = true; exit_future = Some 5 }) parent_cancelled

-- It is kept, tasks 1 and 3 are cancelled, and the exit waits for future 6.
abbrev pub three_aborted : Loop
three_aborted =
    loop_of
    (parts_of
    (waiting (OfTask 0) [] ∷ waiting (OfTask 1) (GroupDone 0 1 ∷ []) ∷ ended (OfTask 2) Cancelled ∷ waiting (OfTask 3) (GroupDone 0 3 ∷ [])
    ∷ cancelled Plain ∷ cancelled Plain ∷ waiting Plain [] ∷ [])
    (free 0 1 ∷ free_must_cancel 1 1 ∷ free 2 0 ∷ waits 3 4 1 ∷ [])
    (handle 5 5 (Step 1) ∷ handle 6 6 (GroupDone 0 2) ∷ handle 7 7 (Wakeup 3) ∷ []) 8)
    (record (in_block (1 ∷ 2 ∷ 3 ∷ [])) { exiting = true; aborting = true; kept = Some cancelled_error; exit_future = Some 6 })
    (parent_cancelled ++ Asked (ByAbort 0) ∷ Raised 1 (ByAbort 0) ∷ Asked (ByAbort 0) ∷ Raised 3 (ByAbort 0) ∷ [])

-- ---- The exit waited for one task, which returned, and the group was told; the parent's step has begun.
abbrev pub last_was_told : Loop
last_was_told =
    loop_of
    (parts_of (waiting (OfTask 0) [] ∷ resolved (OfTask 1) ∷ resolved Plain ∷ []) (free 0 0 ∷ free 1 0 ∷ []) [] 4)
    (record (in_block (1 ∷ [])) { exiting = true; children = []; exit_future = Some 2 }) (Began 0 ∷ [])

-- ---- a group without tasks, after its exit, and after one by a CancelledError
abbrev pub passed : Loop
passed = loop_of parent_alone (record (in_block []) { exiting = true; ended = true }) (Began 0 ∷ [])

abbrev pub passed_on : Loop
passed_on =
    loop_of parent_alone
    (record (in_block []) { exiting = true; ended = true; aborting = true; body = Some cancelled_error; kept = Some cancelled_error })
    (Began 0 ∷ [])

-- ---- exceptions that nest so deep
abbrev pub nested : ℕ → Exc
nested zero = a
nested (suc depth) = exc ExceptionGroup (codes "g") [] (exc_then (nested depth) no_excs)
