-- What a task waits for changes in its own step alone, and no task goes.
use Rattle.std.proofs.Common.{◌≡◌, ℕ, zero, suc, ◌++◌, ◌≤◌, true, false, List, [], ◌∷◌, Option, Some, None, length, slice_get, slice_set, refl, ap, ◌∙◌}
use Rattle.std.proofs.Common.{arith, le_refl, length-append}
use Rattle.std.specs.Option.{option_map_or}
use Rattle.std.specs.Prelude.{◌-◌, filter, nat_le, nat_lt}
use Rattle.model_value.specs.declared.action.Action.TheVariants as action
use Rattle.model_loop.specs.Cancel.{cancel}
use Rattle.model_loop.specs.Handles.{by_deadline, due, fall_due}
use Rattle.model_loop.specs.Loop.{Loop}
use Rattle.model_loop.specs.Parts.{Parts, Task, Timer}
use Rattle.model_loop.specs.Tasks.{change_task, must_still_cancel, one_more, spawn, waiter_of}
use Rattle.model_machine.specs.Extra as extra
use Rattle.model_machine.specs.Extra.{ExtraStep, made_by, made_by_all}
use Rattle.model_machine.specs.State.{State}
use Rattle.law_calls.proofs.Rows.{unchanging}
use Rattle.law_cancel.proofs.Counting.{change_task-kept}
use Rattle.law_cancel.proofs.Effects.{length-change_task, mark_asked-tasks, register-tasks, settle-tasks}
use Rattle.law_cancel.proofs.Lookups.{get-set_other}
use Rattle.law_changes.proofs.Falling.{fallen}
use Rattle.law_changes.proofs.Folds.{fold}
use Rattle.law_changes.proofs.PartsRows.{cancel_row}
use Rattle.law_changes.specs.Changes.{AsksCancel, BeginsExit, CallsLater, CallsSoon, ChangesGroup, ChangesTimeout, ClearsMustCancel, Counts, FallsDue}
use Rattle.law_changes.specs.Changes.{KeepsAsked, LeavesPending, LoopChange, MakesFuture, MakesGroup, MakesTask, MakesTimeout, MayAlone, MayInLoop, MayInParts}
use Rattle.law_changes.specs.Changes.{OfParts}
use Rattle.law_changes.specs.Changes.{PartsChange, Passes, Registers, Revokes, SetsMustCancel, Settles, TakesBack, Uncounts, WaitsFor, made_of_loop}
use Rattle.law_changes.specs.Changes.{made_of_parts}
use Rattle.law_changes.specs.Reaches.{LoopReaches}
use Rattle.law_reach.specs.Changes.{Calls, ChangesExtra, ChangesStreams, EndsMain, Hears, MakesCoroutine, MayInAnswer, NamesFuture, OfLoop, Resumes, Runs}
use Rattle.law_reach.specs.Changes.{Says, SetsResumePoint, StateChange, made}
use Rattle.law_reach.specs.Reaches.{InAnswer}

-- but for the task that runs
pub record Still (runner : Option ℕ) (p q : Parts) : Type 0 where
  pub tasks : length p.tasks ≤ length q.tasks
  pub waiters : (task : ℕ) → (runner ≡ Some task → ⊥) → waiter_of q task ≡ waiter_of p task

abbrev waiter_at : Option Task → Option ℕ
waiter_at o = option_map_or (λ (it : Task). it.waiter) o None

-- a new task waits for nothing
push_waiter : (ts : List Task) (new : Task) (task : ℕ) → new.waiter ≡ None → waiter_at (slice_get (ts ++ new ∷ []) task) ≡ waiter_at (slice_get ts task)
push_waiter [] new zero none = none
push_waiter [] new (suc task) none = refl
push_waiter (x ∷ ts) new zero none = refl
push_waiter (x ∷ ts) new (suc task) none = push_waiter ts new task none

module _ (r : Option ℕ) where
  pub still_same : (p : Parts) → Still r p p
  still_same p = record { tasks = le_refl _; waiters = λ task other. refl }

  pub still_then : (p q t : Parts) → Still r p q → Still r q t → Still r p t
  still_then p q t a b = record {
    tasks = let x = a.tasks in let y = b.tasks in omega (arith, x, y);
    waiters = λ task other. b.waiters task other ∙ a.waiters task other;
  }

  -- ---- of the parts
  pub same_tasks : (p q : Parts) → q.tasks ≡ p.tasks → Still r p q
  same_tasks p q same = record {
    tasks = let e = ap (λ (ts : List Task). length ts) same in omega (arith, e);
    waiters = λ task other. ap (λ (ts : List Task). waiter_at (slice_get ts task)) same;
  }

  pub changed_still : (id : ℕ) (change : Task → Task) (p : Parts) → ((it : Task) → (change it).waiter ≡ it.waiter) → Still r p (change_task id change p)
  changed_still id change p same = record {
    tasks = let e = length-change_task id change p in omega (arith, e);
    waiters = λ task other. change_task-kept waiter_at id change p same task;
  }

  waits_still : (id : ℕ) (on : Option ℕ) (p : Parts) → r ≡ Some id → Still r p (change_task id (λ it. record it { waiter = on }) p)
  waits_still id on p runs = record {
    tasks = let e = length-change_task id (λ it. record it { waiter = on }) p in omega (arith, e);
    waiters = λ task other. at task (λ e. other (runs ∙ ap Some e)) (slice_get p.tasks id);
  }
    where
      at : (task : ℕ) → (id ≡ task → ⊥) → (o : Option Task)
          → waiter_of (option_map_or (λ (it : Task). record p { tasks = slice_set p.tasks id (record it { waiter = on }) }) o p) task ≡ waiter_of p task
      at task other None = refl
      at task other (Some it) = ap waiter_at (get-set_other p.tasks id task (record it { waiter = on }) other)

  spawn_still : (p : Parts) → Still r p (spawn p)
  spawn_still p = record {
    tasks = let e = length-append p.tasks (record { future = length p.futures; waiter = None; cancels = 0; must_cancel = false } ∷ []) in omega (arith, e);
    waiters = λ task other. push_waiter p.tasks _ task refl;
  }

  fall_still : (timers : List Timer) (p : Parts) → Still r p (fall_due timers p)
  fall_still [] p = still_same p
  fall_still (timer ∷ timers) p =
      still_then p (fallen timer p) (fall_due timers (fallen timer p)) (same_tasks p (fallen timer p) refl) (fall_still timers (fallen timer p))

  pub change_still : (change : PartsChange) (p : Parts) → MayInParts r change p → Still r p (made_of_parts change p)
  change_still (CallsSoon it) p may = same_tasks p _ refl
  change_still (CallsLater when it) p may = same_tasks p _ refl
  change_still (Revokes tag) p may = same_tasks p _ refl
  change_still (MakesFuture kind) p may = same_tasks p _ refl
  change_still (Settles future outcome) p may = same_tasks p _ (settle-tasks future outcome p)
  change_still (Registers future it) p may = same_tasks p _ (register-tasks future it p)
  change_still (KeepsAsked future) p may = same_tasks p _ (mark_asked-tasks future p)
  change_still MakesTask p may = spawn_still p
  change_still (WaitsFor task on) p may = waits_still task on p may
  change_still (SetsMustCancel task) p may = changed_still task (λ it. record it { must_cancel = true }) p (λ it. refl)
  change_still (ClearsMustCancel task) p may = changed_still task (λ it. record it { must_cancel = false }) p (λ it. refl)
  change_still (Counts task) p may = changed_still task (λ it. record it { cancels = one_more it.cancels }) p (λ it. refl)
  change_still (Uncounts profile task) p may =
      changed_still task (λ it. record it { cancels = it.cancels - 1; must_cancel = must_still_cancel profile it }) p (λ it. refl)
  change_still (Passes now) p may = same_tasks p _ refl
  change_still FallsDue p may =
      let q = record p { timers = filter (λ (timer : Timer). nat_lt p.time timer.when) p.timers } in
      still_then p q (due p) (same_tasks p q refl) (fall_still (by_deadline (filter (λ (timer : Timer). nat_le timer.when p.time) p.timers)) q)
  change_still (LeavesPending rest) p may = same_tasks p _ refl

  -- ---- of the loop
  pub cancel_still : (id : ℕ) (p : Parts) → Still r p (cancel id p).parts
  cancel_still id p = fold (Still r) still_same still_then change_still (cancel_row r id p)

  alone : (change : PartsChange) (p : Parts) → MayAlone r change p → MayInParts r change p
  alone (CallsSoon it) p may = may
  alone (CallsLater when it) p may = may
  alone (Revokes tag) p may = may
  alone (MakesFuture kind) p may = may
  alone (Settles future outcome) p may = may
  alone (Registers future it) p may = may
  alone (KeepsAsked future) p may = may
  alone MakesTask p may = may
  alone (WaitsFor task on) p may = may
  alone (SetsMustCancel task) p may = may
  alone (ClearsMustCancel task) p may = may
  alone (Counts task) p may = absurd may
  alone (Uncounts profile task) p may = absurd may
  alone (Passes now) p may = may
  alone FallsDue p may = may
  alone (LeavesPending rest) p may = may

  pub loop_still : (change : LoopChange) (l : Loop) → MayInLoop r change l → Still r l.parts (made_of_loop change l).parts
  loop_still (OfParts change) l may = change_still change l.parts (alone change l.parts may)
  loop_still (MakesTimeout task) l may = still_same l.parts
  loop_still (ChangesTimeout id timeout) l may = still_same l.parts
  loop_still (MakesGroup parent) l may = still_same l.parts
  loop_still (ChangesGroup id group) l may = still_same l.parts
  loop_still (AsksCancel by future) l may = cancel_still future l.parts
  loop_still (TakesBack by task) l may = change_still (Uncounts l.profile task) l.parts tt
  loop_still (BeginsExit id) l may = still_same l.parts

  abbrev LoopStill : Loop → Loop → Type 0
  LoopStill l m = Still r l.parts m.parts

  pub row_still : {l m : Loop} → LoopReaches r l m → Still r l.parts m.parts
  row_still row = fold LoopStill (λ l. still_same l.parts) (λ l m n. still_then l.parts m.parts n.parts) loop_still row

  -- ---- of what is added
  step_still : (step : ExtraStep) (l : Loop) → Still r l.parts (made_by step l).parts
  step_still extra.MakesPlain l = same_tasks l.parts _ refl
  step_still (extra.MakesMany members) l = same_tasks l.parts _ refl
  step_still (extra.Settles future outcome) l = change_still (Settles future outcome) l.parts tt
  step_still (extra.Releases future) l = still_same l.parts
  step_still (extra.Registers future key) l = change_still (Registers future (action.Extra key)) l.parts refl
  step_still (extra.CallsSoon key) l = same_tasks l.parts _ refl
  step_still (extra.CallsLater when key) l = same_tasks l.parts _ refl
  step_still (extra.Revokes tag) l = same_tasks l.parts _ refl
  step_still (extra.Cancels key future) l = cancel_still future l.parts
  step_still (extra.Uncancels key task) l = change_still (Uncounts l.profile task) l.parts tt

  pub steps_still : (steps : List ExtraStep) (l : Loop) → Still r l.parts (made_by_all steps l).parts
  steps_still [] l = still_same l.parts
  steps_still (step ∷ steps) l =
      still_then l.parts (made_by step l).parts (made_by_all steps (made_by step l)).parts (step_still step l) (steps_still steps (made_by step l))

-- ---- of the machine
module _ {S : Type 0} (r : Option ℕ) where
  abbrev StateStill : State S → State S → Type 0
  StateStill s t = Still r s.loop.parts t.loop.parts

  answer_still : (change : StateChange S) (s : State S) → MayInAnswer unchanging r change s → StateStill s (made change s)
  answer_still (OfLoop change) s may = loop_still r change s.loop may
  answer_still (Says task text) s may = still_same r s.loop.parts
  answer_still (MakesCoroutine coroutine arguments) s may = still_same r s.loop.parts
  answer_still (SetsResumePoint resume_point task) s may = still_same r s.loop.parts
  answer_still (Resumes fresh task input) s may = absurd may
  answer_still (NamesFuture future) s may = still_same r s.loop.parts
  answer_still EndsMain s may = absurd may
  answer_still (ChangesExtra extra) s may = still_same r s.loop.parts
  answer_still (ChangesStreams streams) s may = still_same r s.loop.parts
  answer_still (Runs it) s may = absurd may
  answer_still (Hears call answer left) s may = still_same r s.loop.parts
  answer_still (Calls call) s may = still_same r s.loop.parts

  pub answers_still : {s t : State S} → InAnswer unchanging r s t → StateStill s t
  answers_still row =
      fold StateStill (λ s. still_same r s.loop.parts) (λ s t u. still_then r s.loop.parts t.loop.parts u.loop.parts) answer_still row
