-- States before and after a cancel request.
use Rattle.std.specs.Prelude.{ℕ, true, false, [], ◌∷◌}
use Rattle.model_value.specs.Number.{most}
use Rattle.model_value.specs.declared.action.Action.TheVariants.{StepInCycle, Wakeup}
use Rattle.model_value.specs.declared.action.CycleKind.TheVariants.{ItsWaiter}
use Rattle.model_loop.specs.Parts.{Plain, OfTask, Many, Parts}
use Rattle.row_loop.specs.Made.{waiting, cancelled, resolved, waits, waits_must_cancel, free, free_must_cancel, handle, parts_of}

-- ---- task 0 awaits task 1, which awaits task 2, which waits for future 3
abbrev pub chain : Parts
chain =
    parts_of
    (waiting (OfTask 0) [] ∷ waiting (OfTask 1) (Wakeup 0 ∷ []) ∷ waiting (OfTask 2) (Wakeup 1 ∷ []) ∷ waiting Plain (Wakeup 2 ∷ []) ∷ [])
    (waits 0 1 0 ∷ waits 1 2 0 ∷ waits 2 3 0 ∷ [])
    [] 3

-- each counts, the future is cancelled, and its waiter is woken
abbrev pub chain_cancelled : Parts
chain_cancelled =
    parts_of
    (waiting (OfTask 0) [] ∷ waiting (OfTask 1) (Wakeup 0 ∷ []) ∷ waiting (OfTask 2) (Wakeup 1 ∷ []) ∷ cancelled Plain ∷ [])
    (waits 0 1 1 ∷ waits 1 2 1 ∷ waits 2 3 1 ∷ [])
    (handle 3 3 (Wakeup 2) ∷ []) 4

-- The future is done and task 2 wasn't stepped yet: a second request counts again and sets must_cancel of task 2 alone.
abbrev pub chain_cancelled_twice : Parts
chain_cancelled_twice =
    parts_of
    (waiting (OfTask 0) [] ∷ waiting (OfTask 1) (Wakeup 0 ∷ []) ∷ waiting (OfTask 2) (Wakeup 1 ∷ []) ∷ cancelled Plain ∷ [])
    (waits 0 1 2 ∷ waits 1 2 2 ∷ waits_must_cancel 2 3 2 ∷ [])
    (handle 3 3 (Wakeup 2) ∷ []) 4

-- a request to the future that is waited for reaches no task
abbrev pub chain_cut : Parts
chain_cut =
    parts_of
    (waiting (OfTask 0) [] ∷ waiting (OfTask 1) (Wakeup 0 ∷ []) ∷ waiting (OfTask 2) (Wakeup 1 ∷ []) ∷ cancelled Plain ∷ [])
    (waits 0 1 0 ∷ waits 1 2 0 ∷ waits 2 3 0 ∷ [])
    (handle 3 3 (Wakeup 2) ∷ []) 4

-- ---- future 2 stands for future 0, which is done, and future 1
abbrev pub one_of_two : Parts
one_of_two = parts_of (resolved Plain ∷ waiting Plain [] ∷ waiting (Many (0 ∷ 1 ∷ []) false) [] ∷ []) [] [] 0

abbrev pub one_of_two_cancelled : Parts
one_of_two_cancelled = parts_of (resolved Plain ∷ cancelled Plain ∷ waiting (Many (0 ∷ 1 ∷ []) true) [] ∷ []) [] [] 0

-- ---- future 3 stands for the tasks 0 and 1, which both wait for future 2
abbrev pub two_on_one : Parts
two_on_one =
    parts_of
    (waiting (OfTask 0) [] ∷ waiting (OfTask 1) [] ∷ waiting Plain (Wakeup 0 ∷ Wakeup 1 ∷ []) ∷ waiting (Many (0 ∷ 1 ∷ []) false) [] ∷ [])
    (waits 0 2 0 ∷ waits 1 2 0 ∷ [])
    [] 2

-- the cancel of task 0 ends the future, so task 1 can only have must_cancel set
abbrev pub two_on_one_cancelled : Parts
two_on_one_cancelled =
    parts_of
    (waiting (OfTask 0) [] ∷ waiting (OfTask 1) [] ∷ cancelled Plain ∷ waiting (Many (0 ∷ 1 ∷ []) true) [] ∷ [])
    (waits 0 2 1 ∷ waits_must_cancel 1 2 1 ∷ [])
    (handle 2 2 (Wakeup 0) ∷ handle 3 3 (Wakeup 1) ∷ []) 4

-- ---- future 3 stands twice for task 0, directly and through future 2
abbrev pub twice_to_one : Parts
twice_to_one =
    parts_of
    (waiting (OfTask 0) [] ∷ waiting Plain (Wakeup 0 ∷ []) ∷ waiting (Many (0 ∷ []) false) [] ∷ waiting (Many (2 ∷ 0 ∷ []) false) [] ∷ [])
    (waits 0 1 0 ∷ [])
    [] 1

-- task 0 counts one request once
abbrev pub twice_to_one_cancelled : Parts
twice_to_one_cancelled =
    parts_of
    (waiting (OfTask 0) [] ∷ cancelled Plain ∷ waiting (Many (0 ∷ []) true) [] ∷ waiting (Many (2 ∷ 0 ∷ []) true) [] ∷ [])
    (waits 0 1 1 ∷ [])
    (handle 1 1 (Wakeup 0) ∷ []) 2

-- ---- Task 0 waits for the tasks 1 and 2 through future 5, and both await task 3, which waits for future 4.
abbrev pub two_ways : Parts
two_ways =
    parts_of
    (waiting (OfTask 0) [] ∷ waiting (OfTask 1) [] ∷ waiting (OfTask 2) [] ∷ waiting (OfTask 3) (Wakeup 1 ∷ Wakeup 2 ∷ [])
    ∷ waiting Plain (Wakeup 3 ∷ []) ∷ waiting (Many (1 ∷ 2 ∷ []) false) (Wakeup 0 ∷ []) ∷ [])
    (waits 0 5 0 ∷ waits 1 3 0 ∷ waits 2 3 0 ∷ waits 3 4 0 ∷ [])
    [] 4

-- Task 1 came to task 3 first. Task 2 is told to go on, so it need not cancel.
abbrev pub two_ways_cancelled : Parts
two_ways_cancelled =
    parts_of
    (waiting (OfTask 0) [] ∷ waiting (OfTask 1) [] ∷ waiting (OfTask 2) [] ∷ waiting (OfTask 3) (Wakeup 1 ∷ Wakeup 2 ∷ [])
    ∷ cancelled Plain ∷ waiting (Many (1 ∷ 2 ∷ []) true) (Wakeup 0 ∷ []) ∷ [])
    (waits 0 5 1 ∷ waits 1 3 1 ∷ waits 2 3 1 ∷ waits 3 4 1 ∷ [])
    (handle 4 4 (Wakeup 3) ∷ []) 5

-- ---- task 0 awaits task 1, which runs
abbrev pub awaited_runs : Parts
awaited_runs =
    parts_of (waiting (OfTask 0) [] ∷ waiting (OfTask 1) (Wakeup 0 ∷ []) ∷ []) (waits 0 1 0 ∷ free 1 0 ∷ []) [] 2

-- Its await of task 0 was refused, and its next step throws. They count so many cancels.
abbrev pub refused : (first second : ℕ) → Parts
refused first second =
    parts_of (waiting (OfTask 0) [] ∷ waiting (OfTask 1) (Wakeup 0 ∷ []) ∷ []) (waits 0 1 first ∷ free 1 second ∷ [])
    (handle 2 2 (StepInCycle 1 ItsWaiter) ∷ []) 3

abbrev pub refused_must_cancel : (first second : ℕ) → Parts
refused_must_cancel first second =
    parts_of (waiting (OfTask 0) [] ∷ waiting (OfTask 1) (Wakeup 0 ∷ []) ∷ []) (waits 0 1 first ∷ free_must_cancel 1 second ∷ [])
    (handle 2 2 (StepInCycle 1 ItsWaiter) ∷ []) 3

-- ---- task 0 waits for future 2, which stands for task 1, which runs
abbrev pub member_runs : Parts
member_runs =
    parts_of
    (waiting (OfTask 0) [] ∷ waiting (OfTask 1) [] ∷ waiting (Many (1 ∷ []) false) (Wakeup 0 ∷ []) ∷ [])
    (waits 0 2 0 ∷ free 1 0 ∷ [])
    [] 2

-- its wait for future 2 was refused
abbrev pub member_refused : Parts
member_refused =
    parts_of
    (waiting (OfTask 0) [] ∷ waiting (OfTask 1) [] ∷ waiting (Many (1 ∷ []) false) (Wakeup 0 ∷ []) ∷ [])
    (waits 0 2 0 ∷ free 1 0 ∷ [])
    (handle 2 2 (StepInCycle 1 ItsWaiter) ∷ []) 3

abbrev pub member_refused_must_cancel : Parts
member_refused_must_cancel =
    parts_of
    (waiting (OfTask 0) [] ∷ waiting (OfTask 1) [] ∷ waiting (Many (1 ∷ []) true) (Wakeup 0 ∷ []) ∷ [])
    (waits 0 2 1 ∷ free_must_cancel 1 1 ∷ [])
    (handle 2 2 (StepInCycle 1 ItsWaiter) ∷ []) 3

-- ---- task 0 runs, so it waits for nothing
abbrev pub free_task : Parts
free_task = parts_of (waiting (OfTask 0) [] ∷ []) (free 0 0 ∷ []) [] 1

abbrev pub free_task_cancelled : Parts
free_task_cancelled = parts_of (waiting (OfTask 0) [] ∷ []) (free_must_cancel 0 1 ∷ []) [] 1

-- ---- a count that is as great as it can be
abbrev pub full_count : Parts
full_count = parts_of (waiting (OfTask 0) [] ∷ []) (free 0 most ∷ []) [] 1

abbrev pub full_count_cancelled : Parts
full_count_cancelled = parts_of (waiting (OfTask 0) [] ∷ []) (free_must_cancel 0 most ∷ []) [] 1

-- ---- future 2 stands for futures that are all done
abbrev pub all_done : Parts
all_done =
    parts_of
    (resolved Plain ∷ cancelled Plain ∷ waiting (Many (0 ∷ 1 ∷ []) false) [] ∷ waiting (Many [] false) [] ∷ waiting (Many (2 ∷ 3 ∷ []) false) [] ∷ [])
    [] [] 0
