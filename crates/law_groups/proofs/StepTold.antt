-- A step's beginning and its ends keep what groups will be told.
use Rattle.std.proofs.Common.{◌≡◌, ℕ, ◌+◌, ◌≤◌, ◌<◌, ◌⊎◌, Bool, true, false, cond, not, ◌&&◌, List, ◌∷◌, Option, Some, None, length, option_map, slice_get}
use Rattle.std.proofs.Common.{refl, ap, sym, subst, ◌∙◌, inl, inr, arith}
use Rattle.std.proofs.lemmas.Bool.{cases_eq, false≢true, eq-eqb}
use Rattle.std.proofs.lemmas.List.Sums.{sum_by-cons}
use Rattle.std.specs.List.{count_by}
use Rattle.model_value.specs.Action.{Action, CycleKind}
use Rattle.model_value.specs.declared.action.Action.TheVariants.{StepInCycle, GroupDone}
use Rattle.model_loop.specs.Parts.{Handle, Future, Task, Parts}
use Rattle.model_loop.specs.Loop.{Group}
use Rattle.model_loop.specs.Handles.{soon}
use Rattle.model_loop.specs.Futures.{is_pending, is_pending_at}
use Rattle.model_loop.specs.Tasks.{lives, future_of, change_task, set_waiter, clear_must_cancel, begin_step, must_cancel_of}
use Rattle.model_loop.specs.Cancel.{cancel}
use Rattle.model_loop.specs.Cycles.{cycle}
use Rattle.model_loop.specs.Suspend.{wait_on, cancel_wait, suspend}
use Rattle.model_loop.specs.Children.{tells, IsTold}
use Rattle.model_loop.specs.Numbered.{occurrences}
use Rattle.model_loop.specs.Ways.{steps}
use Rattle.model_loop.specs.Totals.{callbacks_of, callbacks_at, pending_where, total}
use Rattle.law_cancel.proofs.SuspendCases.{suspend_unless}
use Rattle.law_cancel.proofs.Counting.{change_task-kept}
use Rattle.law_cancel.proofs.Effects.{length-change_task, change_task-futures}
use Rattle.model_loop.specs.Owning.{own_future}
use Rattle.model_loop.specs.Sound.{ArePartsSound}
use Rattle.law_steps.specs.Frames.{taken}
use Rattle.law_steps.proofs.Settling.{IsSettled, soon-where}
use Rattle.law_steps.proofs.SettleWays.{none_away, settled-total, settled-home}
use Rattle.law_steps.proofs.Looks.{future_of-same, change_task-pending}
use Rattle.law_steps.proofs.Stepping.{only_it, it_ends, others_live}
use Rattle.law_steps.proofs.Ending.{pending_there}
use Rattle.law_steps.proofs.Waiting.{IsWaiting, wait_effect, waiting_sound, task_there}
use Rattle.law_groups.proofs.Told.{SameToGroups, framed_told, cancel_told, settled-owned, own_is}
use Rattle.model_value.specs.Input.{Input}

-- an action that steps a task tells no group
step_tells : (action : Action) (stepped group task : ℕ) → steps stepped action ≡ true → tells group task action ≡ false
step_tells (GroupDone group other) a g t h = absurd (false≢true h)
step_tells _ a g t h = refl

-- what a change of a task that keeps its future looks like
change_to_groups : (id : ℕ) (change : Task → Task) (p : Parts) → ((t : Task) → (change t).future ≡ t.future) → SameToGroups p (change_task id change p)
change_to_groups id change p future = record {
  pending = λ group task. ap (pending_where (tells group task)) (change_task-pending id change p);
  registered = λ group task on. ap (λ (l : List Future). count_by (tells group task) (callbacks_at (slice_get l on))) fs;
  owned = owned;
  living = λ task. ap (is_pending (change_task id change p)) (future_of-same p (change_task id change p) (ap length fs) task (owned task))
      ∙ ap (λ (l : List Future). is_pending_at (slice_get l (future_of p task))) fs;
  tasks = length-change_task id change p;
}
  where
    fs : (change_task id change p).futures ≡ p.futures
    fs = change_task-futures id change p

    owned : (task : ℕ) → own_future (change_task id change p) task ≡ own_future p task
    owned task = change_task-kept (option_map (λ (t : Task). t.future)) id change p (λ t. ap Some (future t)) task

-- a handle that steps a task is taken out
taken_to_groups : (task : ℕ) (handle : Handle) (rest : List Handle) (p : Parts) → p.pending ≡ handle ∷ rest → steps task handle.action ≡ true
    → SameToGroups p (taken rest p)
taken_to_groups task handle rest p first mine = record {
  pending = λ group other. sym
      (ap (pending_where (tells group other)) first ∙ sum_by-cons (λ (h : Handle). cond (not h.dead && tells group other h.action) 1 0) handle rest
      ∙ rw (step_tells handle.action task group other mine, none (not handle.dead)) (omega arith));
  registered = λ group other on. refl;
  owned = λ other. refl;
  living = λ other. refl;
  tasks = refl;
}
  where
    none : (b : Bool) → (b && false) ≡ false
    none true = refl
    none false = refl

pub begin_told : (task : ℕ) (input : Input) (handle : Handle) (rest : List Handle) (p : Parts) → p.pending ≡ handle ∷ rest → steps task handle.action ≡ true
    → (group : ℕ) (told : List ℕ) (it : Group) → IsTold p group told it → IsTold (begin_step task input (taken rest p)).parts group told it
begin_told task input handle rest p first mine group told it is =
    framed_told _ _ (change_to_groups task (λ t. record t { must_cancel = false }) (set_waiter task None (taken rest p)) (λ t. refl)) group told it
    (framed_told _ _ (change_to_groups task (λ t. record t { waiter = None }) (taken rest p) (λ t. refl)) group told it
    (framed_told _ _ (taken_to_groups task handle rest p first mine) group told it is))

-- a step is called soon
pub soon_step_told : (task : ℕ) (action : Action) (p : Parts) → steps task action ≡ true → (group : ℕ) (told : List ℕ) (it : Group) → IsTold p group told it
    → IsTold (soon action p) group told it
soon_step_told task action p mine group told it is = framed_told p (soon action p) s group told it is
  where
    s : SameToGroups p (soon action p)
    s = record {
      pending = λ g other. let a : pending_where (tells g other) (soon action p).pending ≡ pending_where (tells g other) p.pending + 0 =
          soon-where (tells g other) action p ∙ rw (step_tells action task g other mine) refl in omega (arith, a);
      registered = λ g other on. refl;
      owned = λ other. refl;
      living = λ other. refl;
      tasks = refl;
    }

-- a task waits
waiting_to_groups : (task on : ℕ) (p q : Parts) → IsWaiting task on p q → SameToGroups p q
waiting_to_groups task on p q w = record {
  pending = λ group other. ap (pending_where (tells group other)) w.pending;
  registered = λ group other id. at group other id (cases_eq on id);
  owned = w.owned;
  living = λ other. ap (is_pending q) (future_of-same p q w.made other (w.owned other)) ∙ w.pends (future_of p other);
  tasks = w.tasks;
}
  where
    at : (group other id : ℕ) → (on ≡ id) ⊎ (on ≡ id → ⊥)
        → count_by (tells group other) (callbacks_of q id) ≡ count_by (tells group other) (callbacks_of p id)
    at group other id (inl same) =
        let a : count_by (tells group other) (callbacks_of q on) ≡ count_by (tells group other) (callbacks_of p on) + 0 = w.registered (tells group other) in
        let b : count_by (tells group other) (callbacks_of q on) ≡ count_by (tells group other) (callbacks_of p on) = omega (arith, a) in
        subst (λ i. count_by (tells group other) (callbacks_of q i) ≡ count_by (tells group other) (callbacks_of p i)) same b
    at group other id (inr n) = ap (count_by (tells group other)) (w.elsewhere id n)

pub suspend_told : (task on : ℕ) (p : Parts) → is_pending p on ≡ true → ArePartsSound (Some task) (Some task) p → (group : ℕ) (told : List ℕ) (it : Group)
    → IsTold p group told it → IsTold (suspend task on p).parts group told it
suspend_told task on p here sound group told it is = at (cycle p task on)
  where
    w : IsWaiting task on p (wait_on task on p)
    w = let u = task_there p task (sound.runs task (eq-eqb task task refl)) in let g = pending_there p on here in
        wait_effect task on p u.0 g.future u.1 g.there g.pending

    waits : IsTold (wait_on task on p) group told it
    waits = framed_told p (wait_on task on p) (waiting_to_groups task on p (wait_on task on p) w) group told it is

    asked : IsTold (cancel on (wait_on task on p)).parts group told it
    asked = cancel_told None (Some task) (λ other r. absurd (false≢true r)) on (wait_on task on p)
        (waiting_sound task on p (wait_on task on p) w here sound) group told it waits

    answered : (b : Bool) → IsTold (cond b (clear_must_cancel task (cancel on (wait_on task on p)).parts) (cancel on (wait_on task on p)).parts) group told it
    answered true = framed_told _ _
        (change_to_groups task (λ t. record t { must_cancel = false }) (cancel on (wait_on task on p)).parts (λ t. refl)) group told it asked
    answered false = asked

    must_cancel : (b : Bool) → IsTold (cancel_wait b task on (wait_on task on p)).parts group told it
    must_cancel false = waits
    must_cancel true = answered (cancel on (wait_on task on p)).answer

    at : (o : Option CycleKind) → IsTold (suspend_unless o task on p).parts group told it
    at (Some why) = soon_step_told task (StepInCycle task why) p (eq-eqb task task refl) group told it is
    at None = must_cancel (must_cancel_of p task)

-- a task ends that is no open group's parent
pub finished_told : (task : ℕ) (p q : Parts) → IsSettled (future_of p task) p q → ArePartsSound (Some task) (Some task) p
    → (group : ℕ) (told : List ℕ) (it : Group) → (it.entered ≡ true → it.ended ≡ false → task ≡ it.parent → ⊥) → IsTold p group told it
    → IsTold q group told it
finished_told task p q s sound group told it free is = record {
  tellings = λ other. ap (total q (tells group other)) (settled-owned s other) ∙ settled-total s (tells group other) (own_future p other) (is.at_home other)
      ∙ is.tellings other;
  at_home = λ other on h. settled-owned s other ∙ settled-home s (tells group other) (own_future p other) (is.at_home other) on h;
  not_yet = λ other l. not_yet other l (cases_eq task other);
  told_done = λ other h. told_done other h (cases_eq task other);
  made_below = λ other h. subst (λ (n : ℕ). other < n) (sym (ap length s.tasks)) (is.made_below other h);
  parent_lives = λ e n. others_live task p q s sound it.parent (free e n) ∙ is.parent_lives e n;
}
  where
    not_yet : (other : ℕ) → lives q other ≡ true → (task ≡ other) ⊎ (task ≡ other → ⊥) → pending_where (tells group other) q.pending ≡ 0
    not_yet other l (inl same) = absurd (false≢true (sym (it_ends task p q s sound other same) ∙ l))
    not_yet other l (inr n) =
        let a = s.called (tells group other) in
        let b = is.not_yet other (sym (others_live task p q s sound other n) ∙ l) in
        let c = none_away p (tells group other) (own_future p other) (is.at_home other) (future_of p task)
        (λ e. n (only_it task p q s sound other (sym (own_is p other (future_of p task) e)))) in
        omega (arith, a, b, c)

    told_done : (other : ℕ) → 1 ≤ occurrences other told → (task ≡ other) ⊎ (task ≡ other → ⊥) → lives q other ≡ false
    told_done other h (inl same) = it_ends task p q s sound other same
    told_done other h (inr n) = others_live task p q s sound other n ∙ is.told_done other h
