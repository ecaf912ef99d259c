-- What a task does in its step keeps what holds of the parts and of all groups.
use Rattle.std.proofs.Common.{◌≡◌, ℕ, Bool, Err, List, None, Ok, Option, Result, Some, [], ap, cond, false, inl, inr, length, option_map, refl, slice_get}
use Rattle.std.proofs.Common.{subst, sym, true, ◌∙◌, ◌∷◌, ◌⊎◌}
use Rattle.model_loop.specs.Tasks.{begin_step, change_task, finish, future_of, must_cancel_of, pause, set_waiter, clear_must_cancel}
use Rattle.model_loop.specs.Suspend.{cancel_wait, suspend, wait_on}
use Rattle.model_value.specs.Value.{Exc, Outcome, Value}
use Rattle.model_loop.specs.Futures.{future_outcome, is_pending, outcome_at, settle}
use Rattle.law_steps.proofs.Waiting.{IsWaiting, suspend_sound, task_there, wait_effect}
use Rattle.law_groups.proofs.Holding.{KeepsOwners, cancels_names, holds_to, looks_holds, names_on, settled_names}
use Rattle.model_loop.specs.Ways.{resumes, steps}
use Rattle.model_loop.specs.Cancel.{cancel}
use Rattle.std.proofs.lemmas.Bool.{cases_eq, eq-eqb, false≢true}
use Rattle.law_steps.proofs.Stepping.{begin_sound, finished_sound, resumes_steps, clear_must_cancel_fewer}
use Rattle.model_loop.specs.Parts.{Future, Handle, Parts, Task}
use Rattle.law_steps.proofs.Spreading.{as_row, with_spread}
use Rattle.model_loop.specs.Loop.{Group}
use Rattle.law_steps.proofs.Ending.{pending_there, soon_step_sound}
use Rattle.law_cancel.proofs.SuspendCases.{suspend_unless}
use Rattle.law_cancel.proofs.Counting.{change_task-kept, goes-done}
use Rattle.model_value.specs.declared.action.Action.TheVariants.{Step, StepInCycle}
use Rattle.law_steps.proofs.Looks.{change_looks_same, future_of-same}
use Rattle.law_groups.proofs.StepTold.{begin_told, finished_told, soon_step_told, suspend_told}
use Rattle.law_groups.specs.Holds.{Holds}
use Rattle.model_loop.specs.Cycles.{cycle}
use Rattle.law_steps.proofs.Settling.{IsSettled, settle_effect}
use Rattle.law_cancel.proofs.Effects.{change_task-futures}
use Rattle.model_value.specs.declared.outcome.Outcome.TheVariants.{Value as Returned, Cancelled}
use Rattle.model_value.specs.Input.{Input}
use Rattle.law_steps.specs.Frames.{taken}
use Rattle.model_value.specs.Action.{Action, CycleKind}
use Rattle.model_loop.specs.Handles.{soon}
use Rattle.model_loop.specs.Owning.{owner_at}
use Rattle.model_loop.proofs.FutureCases.{is_plain_at}

-- a change of a task that keeps its future
change_names : (id : ℕ) (change : Task → Task) (p : Parts) → ((t : Task) → (change t).future ≡ t.future)
    → KeepsOwners p (change_task id change p)
change_names id change p future = record {
  owned = λ task. change_task-kept (option_map (λ (t : Task). t.future)) id change p (λ t. ap Some (future t)) task;
  owners = λ j. ap (λ (l : List Future). owner_at (slice_get l j)) fs;
  plains = λ j. ap (λ (l : List Future). is_plain_at (slice_get l j)) fs;
  made = ap length fs;
}
  where
    fs : (change_task id change p).futures ≡ p.futures
    fs = change_task-futures id change p

change_outcomes : (id : ℕ) (change : Task → Task) (p : Parts) (j : ℕ)
    → future_outcome (change_task id change p) j ≡ future_outcome p j
change_outcomes id change p j = ap (λ (l : List Future). outcome_at (slice_get l j)) (change_task-futures id change p)

same_names : (p q : Parts) → q.futures ≡ p.futures → q.tasks ≡ p.tasks → KeepsOwners p q
same_names p q fs ts = record {
  owned = λ task. ap (λ (l : List Task). option_map (λ (t : Task). t.future) (slice_get l task)) ts;
  owners = λ j. ap (λ (l : List Future). owner_at (slice_get l j)) fs;
  plains = λ j. ap (λ (l : List Future). is_plain_at (slice_get l j)) fs;
  made = ap length fs;
}

module _ (told heard : ℕ → List ℕ) (groups : ℕ → Group) where
  -- ---- a step begins, by the handle that is taken out
  pub begin_holds : (task : ℕ) (input : Input) (handle : Handle) (rest : List Handle) (p : Parts)
      → p.pending ≡ handle ∷ rest → handle.dead ≡ false → steps task handle.action ≡ true
      → Holds None None told heard groups p
      → Holds (Some task) (Some task) told heard groups (begin_step task input (taken rest p)).parts
  begin_holds task input handle rest p first live mine h =
      holds_to None None (Some task) (Some task) told heard groups p (begin_step task input (taken rest p)).parts
      (names_on p (set_waiter task None (taken rest p)) _
      (change_names task (λ t. record t { must_cancel = false }) (set_waiter task None (taken rest p)) (λ t. refl))
      (names_on p (taken rest p) _ (change_names task (λ t. record t { waiter = None }) (taken rest p) (λ t. refl))
      (same_names p (taken rest p) refl refl)))
      (λ j d. change_outcomes task (λ t. record t { must_cancel = false }) (set_waiter task None (taken rest p)) j
      ∙ change_outcomes task (λ t. record t { waiter = None }) (taken rest p) j)
      (begin_sound task handle rest p first live mine h.parts input)
      (λ g. begin_told task input handle rest p first mine g (told g) (groups g) (h.tellings g)) h

  -- ---- it ends, and the next one is pending
  soon_holds : (task : ℕ) (action : Action) (p : Parts) → resumes task action ≡ true
      → Holds (Some task) (Some task) told heard groups p → Holds None None told heard groups (soon action p)
  soon_holds task action p resumed h =
      holds_to (Some task) (Some task) None None told heard groups p (soon action p) (same_names p (soon action p) refl refl)
      (λ j d. refl) (soon_step_sound task action p resumed h.parts)
      (λ g. soon_step_told task action p (resumes_steps task action resumed) g (told g) (groups g) (h.tellings g)) h

  pub pause_holds : (task : ℕ) (p : Parts) → Holds (Some task) (Some task) told heard groups p
      → Holds None None told heard groups (pause task p)
  pause_holds task p h = soon_holds task (Step task) p (eq-eqb task task refl) h

  -- ---- it ends with a wait
  module _ (task on : ℕ) (p : Parts) (here : is_pending p on ≡ true) (h : Holds (Some task) (Some task) told heard groups p) where
    w : IsWaiting task on p (wait_on task on p)
    w =
        let u = task_there p task (h.parts.runs task (eq-eqb task task refl)) in
        let g = pending_there p on here in
        wait_effect task on p u.0 g.future u.1 g.there g.pending

    waits : KeepsOwners p (wait_on task on p)
    waits = record { owned = w.owned; owners = w.owners; plains = w.plains; made = w.made }

    asked : KeepsOwners p (cancel on (wait_on task on p)).parts
    asked = names_on p (wait_on task on p) _ (cancels_names (with_spread on [] (wait_on task on p))) waits

    answered : (b : Bool) → KeepsOwners p (cond b (clear_must_cancel task (cancel on (wait_on task on p)).parts) (cancel on (wait_on task on p)).parts)
    answered true =
        names_on p (cancel on (wait_on task on p)).parts _
        (change_names task (λ t. record t { must_cancel = false }) (cancel on (wait_on task on p)).parts (λ t. refl)) asked
    answered false = asked

    must_cancel : (b : Bool) → KeepsOwners p (cancel_wait b task on (wait_on task on p)).parts
    must_cancel false = waits
    must_cancel true = answered (cancel on (wait_on task on p)).answer

    named : (o : Option CycleKind) → KeepsOwners p (suspend_unless o task on p).parts
    named (Some why) = same_names p (soon (StepInCycle task why) p) refl refl
    named None = must_cancel (must_cancel_of p task)

    pub suspend_names : KeepsOwners p (suspend task on p).parts
    suspend_names = named (cycle p task on)

    stay : (j : ℕ) → is_pending p j ≡ false → (o : Option CycleKind)
        → future_outcome (suspend_unless o task on p).parts j ≡ future_outcome p j
    stay j d (Some why) = refl
    stay j d None = at (must_cancel_of p task)
      where
        kept : future_outcome (cancel on (wait_on task on p)).parts j ≡ future_outcome p j
        kept = ap outcome_at (goes-done (as_row (with_spread on [] (wait_on task on p))) j (w.pends j ∙ d)) ∙ w.outcomes j

        after : (b : Bool) → future_outcome (cond b (clear_must_cancel task (cancel on (wait_on task on p)).parts)
            (cancel on (wait_on task on p)).parts) j ≡ future_outcome p j
        after true = change_outcomes task (λ t. record t { must_cancel = false }) (cancel on (wait_on task on p)).parts j ∙ kept
        after false = kept

        at : (b : Bool) → future_outcome (cancel_wait b task on (wait_on task on p)).parts j ≡ future_outcome p j
        at false = w.outcomes j
        at true = after (cancel on (wait_on task on p)).answer

    pub suspend_holds : Holds None None told heard groups (suspend task on p).parts
    suspend_holds =
        holds_to (Some task) (Some task) None None told heard groups p (suspend task on p).parts suspend_names
        (λ j d. stay j d (cycle p task on)) (suspend_sound task on p here h.parts)
        (λ g. suspend_told task on p here h.parts g (told g) (groups g) (h.tellings g)) h

  -- ---- it ends the task
  settle_own_holds : (task : ℕ) (outcome : Outcome) (p : Parts)
      → ((g : ℕ) → (groups g).entered ≡ true → (groups g).ended ≡ false → task ≡ (groups g).parent → ⊥)
      → Holds (Some task) (Some task) told heard groups p
      → Holds None None told heard groups (settle (future_of p task) outcome p)
  settle_own_holds task outcome p free h =
      holds_to (Some task) (Some task) None None told heard groups p (settle (future_of p task) outcome p)
      (settled_names (future_of p task) p _ s) (λ j d. stay j d (cases_eq (future_of p task) j))
      (finished_sound task p _ s h.parts)
      (λ g. finished_told task p _ s h.parts g (told g) (groups g) (free g) (h.tellings g)) h
    where
      s : IsSettled (future_of p task) p (settle (future_of p task) outcome p)
      s =
          let t = pending_there p (future_of p task) (h.parts.runs task (eq-eqb task task refl)) in
          settle_effect (future_of p task) outcome p t.future t.there t.pending

      stay : (j : ℕ) → is_pending p j ≡ false → (future_of p task ≡ j) ⊎ (future_of p task ≡ j → ⊥)
          → future_outcome (settle (future_of p task) outcome p) j ≡ future_outcome p j
      stay j d (inl same) = absurd (false≢true (sym d ∙ subst (λ i. is_pending p i ≡ true) same s.was))
      stay j d (inr n) = ap outcome_at (s.others j n)

  pub finish_holds : (task : ℕ) (end : Result Value Exc) (p : Parts)
      → ((g : ℕ) → (groups g).entered ≡ true → (groups g).ended ≡ false → task ≡ (groups g).parent → ⊥)
      → Holds (Some task) (Some task) told heard groups p → Holds None None told heard groups (finish task end p)
  finish_holds task (Err fault) p free h = settle_own_holds task _ p free h
  finish_holds task (Ok value) p free h =
      let s = change_looks_same task _ p (λ t. refl) (λ t. refl) in
      subst (λ id. Holds None None told heard groups (settle id (cond (must_cancel_of p task) Cancelled (Returned value)) (clear_must_cancel task p)))
      (future_of-same p (clear_must_cancel task p) s.made task (s.owned task))
      (settle_own_holds task (cond (must_cancel_of p task) Cancelled (Returned value)) (clear_must_cancel task p) free
      (looks_holds (Some task) (Some task) told heard groups p (clear_must_cancel task p) s (clear_must_cancel_fewer task p) h))
