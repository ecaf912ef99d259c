-- What clears no must_cancel: all that takes no cancel back, but a task's own step.
use Rattle.std.proofs.Common.{◌≡◌, ℕ, zero, suc, ℤ, Bool, true, false, List, [], ◌∷◌, ◌++◌, Option, Some, None}
use Rattle.std.proofs.Common.{option_map, slice_get, ap, ◌∙◌, refl}
use Rattle.std.specs.List.{range_with_len}
use Rattle.std.specs.Option.{option_map_or}
use Rattle.std.proofs.lemmas.Bool.{false≢true}
use Rattle.model_value.specs.declared.outcome.Outcome.TheVariants.{Cancelled}
use Rattle.model_loop.proofs.TimeoutCases.{reschedule_where}
use Rattle.model_loop.specs.Cancel.{cancel}
use Rattle.model_loop.specs.Ending.{cancel_everything}
use Rattle.model_loop.specs.Futures.{mark_asked, next_future, register, settle}
use Rattle.model_loop.specs.Groups.{child_done, create}
use Rattle.model_loop.specs.Handles.{deadline, due}
use Rattle.model_loop.specs.Ledger.{Origin, ByEnd, request_each}
use Rattle.model_loop.specs.Loop.{Loop}
use Rattle.model_loop.specs.Parts.{Parts, Task}
use Rattle.model_loop.specs.Tasks.{change_task, future_of, must_cancel_of, next_task, spawn}
use Rattle.model_loop.specs.Timeouts.{enter_timeout, fire, is_active, make_timeout, moment, next_timeout, reschedule, timeout_of}
use Rattle.law_cancel.proofs.Counting.{change_task-kept}
use Rattle.law_cancel.proofs.Effects.{mark_asked-tasks, register-tasks, settle-tasks}
use Rattle.law_steps.proofs.Stepping.{at_task}
use Rattle.law_groups.proofs.Due.{due-tasks}
use Rattle.law_changes.specs.Blocks.{OfRequest, cancels, keeps_asked, counts, sets_must_cancel}
use Rattle.law_changes.specs.Blocks.{OfSchedule, gives_up, fires_soon, fires_later, tags, OfGroup, changes, aborts, waits, wakes, OfTold, in_told, requests}
use Rattle.law_changes.specs.Blocks.{asks, OfCreating, in_creating, spawns, registers}
use Rattle.law_changes.specs.Changes.{PartsChange, CallsSoon, CallsLater, Revokes, MakesFuture, Settles, Registers, KeepsAsked, MakesTask, WaitsFor}
use Rattle.law_changes.specs.Changes.{SetsMustCancel, ClearsMustCancel, Counts, Uncounts, Passes, FallsDue, LeavesPending, MayAlone, made_of_parts}
use Rattle.law_changes.specs.Changes.{LoopChange, OfParts, MakesTimeout, ChangesTimeout, MakesGroup, ChangesGroup, AsksCancel, TakesBack, BeginsExit}
use Rattle.law_changes.specs.Changes.{made_of_loop}
use Rattle.law_changes.specs.Reaches.{Reaches}
use Rattle.law_changes.proofs.BlockRows.{child_done_in, create_in, schedule_in}
use Rattle.law_changes.proofs.PartsRows.{cancel_in, each_in}
use Rattle.law_changes.proofs.Folds.{keep, widen}
use Rattle.law_promises.specs.KeepsMustCancel.{KeepsMustCancel}
use Rattle.law_promises.proofs.Reaching.{must_cancel_more}

abbrev pub must_cancel_at : Option Task → Bool
must_cancel_at o = option_map_or (λ (t : Task). t.must_cancel) o false

pub as_tasks : (p q : Parts) → q.tasks ≡ p.tasks → KeepsMustCancel p q
as_tasks p q same task m = ap (λ (tasks : List Task). must_cancel_at (slice_get tasks task)) same ∙ m

pub counted_keeps : (id : ℕ) (change : Task → Task) (p : Parts) → ((t : Task) → (change t).must_cancel ≡ t.must_cancel)
    → KeepsMustCancel p (change_task id change p)
counted_keeps id change p same task m = change_task-kept must_cancel_at id change p same task ∙ m

-- ---- handles, and what is made
pub due_keeps : (p : Parts) → KeepsMustCancel p (due p)
due_keeps p = as_tasks p (due p) (due-tasks p)

pushed : (tasks : List Task) (new : Task) (task : ℕ) → must_cancel_at (slice_get tasks task) ≡ true → must_cancel_at (slice_get (tasks ++ new ∷ []) task) ≡ true
pushed [] new task m = absurd (false≢true m)
pushed (it ∷ tasks) new zero m = m
pushed (it ∷ tasks) new (suc task) m = pushed tasks new task m

pub spawn_keeps : (p : Parts) → KeepsMustCancel p (spawn p)
spawn_keeps p task m = pushed p.tasks (record { future = next_future p; waiter = None; cancels = 0; must_cancel = false }) task m

-- ---- requests
request_keeps_one : (me : ℕ) (change : PartsChange) (p : Parts) → OfRequest change p → must_cancel_of p me ≡ true
    → must_cancel_of (made_of_parts change p) me ≡ true
request_keeps_one me _ p (cancels future) m = as_tasks p (settle future Cancelled p) (settle-tasks future Cancelled p) me m
request_keeps_one me _ p (keeps_asked future) m = as_tasks p (mark_asked future p) (mark_asked-tasks future p) me m
request_keeps_one me _ p (counts task) m = counted_keeps task _ p (λ t. refl) me m
request_keeps_one me _ p (sets_must_cancel task) m = must_cancel_more task p me m

request_row : {p q : Parts} → Reaches made_of_parts OfRequest p q → KeepsMustCancel p q
request_row row me m = keep (λ p. must_cancel_of p me ≡ true) (request_keeps_one me) row m

pub request_keeps : (id : ℕ) (p : Parts) → KeepsMustCancel p (cancel id p).parts
request_keeps id p = request_row (cancel_in id p)

pub requests_keep : (by : Origin) (tasks : List ℕ) (p : Parts) → KeepsMustCancel p (request_each by tasks p).parts
requests_keep by tasks p = request_row (each_in by tasks p)

pub end_keeps : (l : Loop) → KeepsMustCancel l.parts (cancel_everything l).parts
end_keeps l = requests_keep ByEnd (range_with_len 0 (next_task l.parts)) l.parts

-- ---- other changes: a task's own step alone clears its must_cancel
pub part_keeps : (r : Option ℕ) (me : ℕ) → (r ≡ Some me → ⊥) → (change : PartsChange) (p : Parts) → MayAlone r change p → must_cancel_of p me ≡ true
    → must_cancel_of (made_of_parts change p) me ≡ true
part_keeps r me n (Settles future outcome) p may m = as_tasks p (settle future outcome p) (settle-tasks future outcome p) me m
part_keeps r me n (Registers future action) p may m = as_tasks p (register future action p) (register-tasks future action p) me m
part_keeps r me n (KeepsAsked future) p may m = as_tasks p (mark_asked future p) (mark_asked-tasks future p) me m
part_keeps r me n MakesTask p may m = spawn_keeps p me m
part_keeps r me n (WaitsFor task on) p may m = counted_keeps task _ p (λ t. refl) me m
part_keeps r me n (SetsMustCancel task) p may m = must_cancel_more task p me m
part_keeps r me n (ClearsMustCancel task) p may m = at_task must_cancel_at task _ p me (λ e. n (may ∙ ap Some e)) ∙ m
part_keeps r me n (Counts task) p may m = absurd may
part_keeps r me n (Uncounts profile task) p may m = absurd may
part_keeps r me n FallsDue p may m = due_keeps p me m
part_keeps r me n (CallsSoon action) p may m = m
part_keeps r me n (CallsLater when action) p may m = m
part_keeps r me n (Revokes tag) p may m = m
part_keeps r me n (MakesFuture kind) p may m = m
part_keeps r me n (Passes now) p may m = m
part_keeps r me n (LeavesPending rest) p may m = m

pub nobody : (me : ℕ) → None ≡ Some me → ⊥
nobody me e = absurd cc

-- ---- what takes nothing back
abbrev MayKeep : LoopChange → Loop → Type 0
MayKeep (TakesBack by task) l = ⊥
MayKeep (OfParts change) l = MayAlone None change l.parts
MayKeep _ l = Unit {0}

loop_keeps : (me : ℕ) (change : LoopChange) (l : Loop) → MayKeep change l → must_cancel_of l.parts me ≡ true
    → must_cancel_of (made_of_loop change l).parts me ≡ true
loop_keeps me (OfParts change) l may m = part_keeps None me (nobody me) change l.parts may m
loop_keeps me (AsksCancel by future) l may m = request_keeps future l.parts me m
loop_keeps me (TakesBack by task) l may m = absurd may
loop_keeps me (MakesTimeout task) l may m = m
loop_keeps me (ChangesTimeout id timeout) l may m = m
loop_keeps me (MakesGroup parent) l may m = m
loop_keeps me (ChangesGroup id group) l may m = m
loop_keeps me (BeginsExit id) l may m = m

keeps_all : {May : LoopChange → Loop → Type 0} → ((change : LoopChange) (l : Loop) → May change l → MayKeep change l) → {l m : Loop}
    → Reaches made_of_loop May l m → KeepsMustCancel l.parts m.parts
keeps_all may row me = keep (λ l. must_cancel_of l.parts me ≡ true) (loop_keeps me) (widen may row)

of_schedule : (id : ℕ) (change : LoopChange) (l : Loop) → OfSchedule id change l → MayKeep change l
of_schedule id _ l (gives_up tag) = tt
of_schedule id _ l fires_soon = refl
of_schedule id _ l (fires_later when) = tt
of_schedule id _ l (tags tag) = tt

of_group : (id : ℕ) (change : LoopChange) (l : Loop) → OfGroup id change l → MayKeep change l
of_group id _ l (changes new same) = tt
of_group id _ l (aborts future) = tt
of_group id _ l waits = tt
of_group id _ l (wakes future) = tt

of_told : (id : ℕ) (change : LoopChange) (l : Loop) → OfTold id change l → MayKeep change l
of_told id change l (in_told it) = of_group id change l it
of_told id _ l requests = tt
of_told id _ l (asks future) = tt

of_creating : (id : ℕ) (change : LoopChange) (l : Loop) → OfCreating id change l → MayKeep change l
of_creating id change l (in_creating it) = of_group id change l it
of_creating id _ l spawns = tt
of_creating id _ l (registers future task) = refl

pub enter_keeps : (task : ℕ) (delay : Option ℤ) (l : Loop) → KeepsMustCancel l.parts (enter_timeout task delay l).parts
enter_keeps task delay l =
    keeps_all (of_schedule (next_timeout l)) (schedule_in (next_timeout l) (option_map (deadline l.parts.time) delay) (make_timeout task l))

pub reschedule_keeps : (id : ℕ) (when : Option ℤ) (l : Loop) → KeepsMustCancel l.parts (reschedule id when l).parts
reschedule_keeps id when l = at (is_active (timeout_of l id).state)
  where
    at : (b : Bool) → KeepsMustCancel l.parts (reschedule_where b id when l).parts
    at true = keeps_all (of_schedule id) (schedule_in id (option_map moment when) l)
    at false = λ task m. m

pub fire_keeps : (id : ℕ) (l : Loop) → KeepsMustCancel l.parts (fire id l).parts
fire_keeps id l = request_keeps (future_of l.parts (timeout_of l id).task) l.parts

pub create_keeps : (id : ℕ) (l : Loop) → KeepsMustCancel l.parts (create id l).parts
create_keeps id l = keeps_all (of_creating id) (create_in id l)

pub child_done_keeps : (id task : ℕ) (l : Loop) → KeepsMustCancel l.parts (child_done id task l).parts
child_done_keeps id task l = keeps_all (of_told id) (child_done_in id task l)
