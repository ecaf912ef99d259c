-- A wait keeps the parts sound, and the cancel that must_cancel makes of it.
use Rattle.std.proofs.Common.{◌≡◌, ℕ, zero, suc, ◌+◌, ◌<◌, ◌⊎◌, Bool, true, false, cond, List, [], ◌∷◌, ◌++◌, Option, Some, None, length, option_map, slice_get}
use Rattle.std.proofs.Common.{slice_set, refl, ap, sym, subst, ◌∙◌, inl, inr, arith}
use Rattle.std.proofs.Math.ListN.{length-set}
use Rattle.std.proofs.lemmas.Bool.{cases_eq, false≢true, eq-eqb, ne_eqb, not-false}
use Rattle.std.proofs.lemmas.Option.{same_Some, slice_get_past, slice_get_within}
use Rattle.std.proofs.lemmas.List.Sums.{sum_by_push}
use Rattle.std.specs.List.{count_by}
use Rattle.std.specs.Option.{option_map_or}
use Rattle.model_value.specs.Action.{Action, CycleKind}
use Rattle.model_value.specs.declared.action.Action.TheVariants.{StepInCycle, Wakeup}
use Rattle.model_loop.specs.Parts.{Future, Task, Parts}
use Rattle.model_loop.specs.Futures.{is_pending, is_pending_at, with_future, register, future_outcome, outcome_at}
use Rattle.model_loop.specs.Tasks.{lives, waiter_of, future_of, must_cancel_of, clear_must_cancel}
use Rattle.model_loop.specs.Spent.{spent_by, is_spent}
use Rattle.model_loop.specs.Cancel.{CancelRequest, cancel}
use Rattle.model_loop.specs.Cycles.{cycle}
use Rattle.model_loop.specs.Suspend.{wait_on, cancel_wait, suspend}
use Rattle.model_loop.specs.Ways.{steps, steps_among, wakeups_on, is_running, wakeups_at, ways, wanted, resumes, wakes}
use Rattle.model_loop.specs.Totals.{callbacks_of, callbacks_at, pending_where}
use Rattle.model_loop.specs.MustCancel.{MayKeepMustCancel}
use Rattle.law_cancel.proofs.SuspendCases.{suspend_unless}
use Rattle.law_cancel.proofs.Lookups.{get-set_same, get-set_other, get-set_kept}
use Rattle.law_cancel.proofs.Counting.{change_task-kept}
use Rattle.law_cancel.proofs.Effects.{change_task-there, change_task-futures, register-tasks, length-change_task}
use Rattle.law_cancel.proofs.Answering.{with_answer_spent, with_still}
use Rattle.model_loop.specs.Owning.{owner_at, owner_of, own_future, is_plain, is_no_callback}
use Rattle.model_loop.specs.Sound.{ArePartsSound}
use Rattle.model_loop.proofs.FutureCases.{is_plain_at, registered, registered_on}
use Rattle.law_steps.proofs.Looks.{future_of-same, spent_grows_below, change_task-pending}
use Rattle.law_steps.proofs.CancelSound.{cancel_sound, wakes_steps}
use Rattle.law_steps.proofs.Stepping.{at_task, running_is, cleared, clear_must_cancel_sound, resumes_steps}
use Rattle.law_steps.proofs.Ending.{pending_there, soon_step_sound}
use Rattle.law_steps.proofs.Settling.{fewer_pending}

-- From p to q the task began to wait for a pending future.
pub record IsWaiting (task on : ℕ) (p q : Parts) : Type 0 where
  pub pending : q.pending ≡ p.pending
  pub made : length q.futures ≡ length p.futures
  pub tasks : length q.tasks ≡ length p.tasks
  pub pends : (id : ℕ) → is_pending q id ≡ is_pending p id
  pub owners : (id : ℕ) → owner_of q id ≡ owner_of p id
  pub outcomes : (id : ℕ) → future_outcome q id ≡ future_outcome p id
  pub plains : (id : ℕ) → is_plain q id ≡ is_plain p id
  pub owned : (other : ℕ) → own_future q other ≡ own_future p other
  pub must_cancel : (other : ℕ) → must_cancel_of q other ≡ must_cancel_of p other
  pub spents : (f : ℕ → Bool) (id : ℕ) → spent_by f (slice_get q.futures id) id ≡ spent_by f (slice_get p.futures id) id
  pub waits : waiter_of q task ≡ Some on
  pub others_wait : (other : ℕ) → (task ≡ other → ⊥) → waiter_of q other ≡ waiter_of p other
  pub registered : (test : Action → Bool) → count_by test (callbacks_of q on) ≡ count_by test (callbacks_of p on) + cond (test (Wakeup task)) 1 0
  pub elsewhere : (id : ℕ) → (on ≡ id → ⊥) → callbacks_of q id ≡ callbacks_of p id

pub wait_effect : (task on : ℕ) (p : Parts) (it : Task) (future : Future) → slice_get p.tasks task ≡ Some it → slice_get p.futures on ≡ Some future
    → future.outcome ≡ None → IsWaiting task on p (wait_on task on p)
wait_effect task on p it future here e o = record {
  pending = change_task-pending task _ r ∙ ap (λ (q : Parts). q.pending) whole;
  made = ap length fs ∙ length-set p.futures on new;
  tasks = length-change_task task _ r ∙ ap length (register-tasks on (Wakeup task) p);
  pends = λ id. see is_pending_at id refl;
  owners = λ id. see owner_at id refl;
  outcomes = λ id. see outcome_at id refl;
  plains = λ id. see is_plain_at id refl;
  owned = λ other. kept (option_map (λ (t : Task). t.future)) (λ t. refl) other;
  must_cancel = λ other. kept (λ (o : Option Task). option_map_or (λ (t : Task). t.must_cancel) o false) (λ t. refl) other;
  spents = λ f id. see (λ o. spent_by f o id) id refl;
  waits = ap (λ (q : Parts). option_map_or (λ (t : Task). t.waiter) (slice_get q.tasks task) None) (change_task-there task (waiting on) r it there)
      ∙ ap (λ (o : Option Task). option_map_or (λ (t : Task). t.waiter) o None) (get-set_same r.tasks task it (waiting on it) there);
  others_wait = λ other n. at_task (λ (o : Option Task). option_map_or (λ (t : Task). t.waiter) o None) task _ r other n
      ∙ ap (λ (ts : List Task). option_map_or (λ (t : Task). t.waiter) (slice_get ts other) None) (register-tasks on (Wakeup task) p);
  registered = λ test.
      ap (λ (l : List Future). count_by test (callbacks_at (slice_get l on))) fs
      ∙ ap (λ o. count_by test (callbacks_at o)) (get-set_same p.futures on future new e)
      ∙ sum_by_push (λ a. cond (test a) 1 0) future.callbacks (Wakeup task)
      ∙ ap (λ o. count_by test (callbacks_at o) + cond (test (Wakeup task)) 1 0) (sym e);
  elsewhere = λ id n. ap (λ (l : List Future). callbacks_at (slice_get l id)) fs ∙ ap callbacks_at (get-set_other p.futures on id new n);
}
  where
    r : Parts
    r = register on (Wakeup task) p

    waiting : ℕ → Task → Task
    waiting w t = record t { waiter = Some w }

    new : Future
    new = record future { callbacks = future.callbacks ++ Wakeup task ∷ [] }

    whole : register on (Wakeup task) p ≡ with_future on (record future { callbacks = future.callbacks ++ Wakeup task ∷ [] }) p
    whole = ap (λ f. registered f on (Wakeup task) p) e ∙ ap (λ x. registered_on x on future (Wakeup task) p) o

    fs : (wait_on task on p).futures ≡ slice_set p.futures on (record future { callbacks = future.callbacks ++ Wakeup task ∷ [] })
    fs = change_task-futures task _ (register on (Wakeup task) p) ∙ ap (λ (q : Parts). q.futures) whole

    there : slice_get (register on (Wakeup task) p).tasks task ≡ Some it
    there = ap (λ (ts : List Task). slice_get ts task) (register-tasks on (Wakeup task) p) ∙ here

    see : {Y : Type 0} (f : Option Future → Y) (id : ℕ) → f (Some (record future { callbacks = future.callbacks ++ Wakeup task ∷ [] })) ≡ f (Some future)
        → f (slice_get (wait_on task on p).futures id) ≡ f (slice_get p.futures id)
    see f id same = ap (λ (l : List Future). f (slice_get l id)) fs
        ∙ get-set_kept f p.futures on id future (record future { callbacks = future.callbacks ++ Wakeup task ∷ [] }) e same

    kept : {Y : Type 0} (f : Option Task → Y) → ((t : Task) → f (Some (record t { waiter = Some on })) ≡ f (Some t)) → (other : ℕ)
        → f (slice_get (wait_on task on p).tasks other) ≡ f (slice_get p.tasks other)
    kept f same other = change_task-kept f task _ (register on (Wakeup task) p) same other
        ∙ ap (λ (ts : List Task). f (slice_get ts other)) (register-tasks on (Wakeup task) p)

module _ (task on : ℕ) (p q : Parts) (w : IsWaiting task on p q) (here : is_pending p on ≡ true) (is : ArePartsSound (Some task) (Some task) p) where
  running : is_running (Some task) task ≡ true
  running = eq-eqb task task refl

  living : (other : ℕ) → lives q other ≡ lives p other
  living other = ap (is_pending q) (future_of-same p q w.made other (w.owned other)) ∙ w.pends (future_of p other)

  -- the task that ran has no way
  idle : steps_among task p.pending + wakeups_at p task (waiter_of p task) ≡ 0
  idle = is.one_way.one task ∙ rw (running, is.runs task running) refl

  nowhere : (id : ℕ) → wakeups_on p task id ≡ 0
  nowhere id = go (wakeups_on p task id) refl
    where
      go : (k : ℕ) → wakeups_on p task id ≡ k → wakeups_on p task id ≡ 0
      go zero e = e
      go (suc k) e =
          let at : waiter_of p task ≡ Some id = is.one_way.on_waiter task id (omega (arith, e)) in
          let z : steps_among task p.pending + wakeups_on p task id ≡ 0 = ap (λ o. steps_among task p.pending + wakeups_at p task o) (sym at) ∙ idle in
          omega (arith, z)

  others_on : (other id : ℕ) → (task ≡ other → ⊥) → wakeups_on q other id ≡ wakeups_on p other id
  others_on other id n = go (cases_eq on id)
    where
      go : (on ≡ id) ⊎ (on ≡ id → ⊥) → wakeups_on q other id ≡ wakeups_on p other id
      go (inl same) =
          let a : wakeups_on q other on ≡ wakeups_on p other on + 0 = w.registered (steps other) ∙ rw (ne_eqb task other n) refl in
          let b : wakeups_on q other on ≡ wakeups_on p other on = omega (arith, a) in
          subst (λ i. wakeups_on q other i ≡ wakeups_on p other i) same b
      go (inr m) = ap (count_by (steps other)) (w.elsewhere id m)

  mine_on : wakeups_on q task on ≡ 1
  mine_on =
      let a : wakeups_on q task on ≡ wakeups_on p task on + 1 = w.registered (steps task) ∙ rw running refl in
      let z = nowhere on in omega (arith, a, z)

  spent : (id : ℕ) → is_spent p id ≡ true → is_spent q id ≡ true
  spent id = spent_grows_below (suc id) p q (λ f j. inl (w.spents f j)) id

  others_at : (other : ℕ) → (task ≡ other → ⊥) → (o : Option ℕ) → wakeups_at q other o ≡ wakeups_at p other o
  others_at other n None = refl
  others_at other n (Some id) = others_on other id n

  one : (other : ℕ) → (task ≡ other) ⊎ (task ≡ other → ⊥) → ways q other ≡ wanted None q other
  one other (inl same) = subst (λ t. ways q t ≡ wanted None q t) same at_it
    where
      at_it : ways q task ≡ wanted None q task
      at_it =
          let a : ways q task ≡ steps_among task p.pending + wakeups_on q task on = ap (λ o. steps_among task q.pending + wakeups_at q task o) w.waits
          ∙ ap (λ l. steps_among task l + wakeups_on q task on) w.pending in
          let b : wanted None q task ≡ 1 = rw (living task, is.runs task running) refl in
          let m = mine_on in
          let i = idle in
          omega (arith, a, b, m, i)
  one other (inr n) =
      ap (λ o. steps_among other q.pending + wakeups_at q other o) (w.others_wait other n)
      ∙ ap (λ k. steps_among other q.pending + k) (others_at other n (waiter_of p other))
      ∙ ap (λ l. steps_among other l + wakeups_at p other (waiter_of p other)) w.pending
      ∙ is.one_way.one other ∙ rw (living other, ne_eqb task other n) refl

  pub waiting_sound : ArePartsSound None (Some task) q
  waiting_sound = record {
    owns = λ id other. (λ h. w.owned other ∙ (is.owns id other).0 (sym (w.owners id) ∙ h), λ h. w.owners id ∙ (is.owns id other).1 (sym (w.owned other) ∙ h));
    settled = λ id h. settled id (sym (w.pends id) ∙ h) (cases_eq on id);
    callbacks = λ id. callbacks id (cases_eq on id);
    free = λ other r. absurd (false≢true r);
    ready = record {
      free = λ other h.
          let a : 0 < pending_where (resumes other) p.pending = subst (λ l. 0 < pending_where (resumes other) l) w.pending h in
          ready_free other a (cases_eq task other);
      woken = λ other h.
          let a : 0 < pending_where (wakes other) p.pending = subst (λ l. 0 < pending_where (wakes other) l) w.pending h in
          woken other a (cases_eq task other);
    };
    runs = λ other r. absurd (false≢true r);
    waits_made = λ other id v. subst (λ (n : ℕ). id < n) (sym w.made) (waits_made other id v (cases_eq task other));
    one_way = record {
      one = λ other. one other (cases_eq task other);
      on_waiter = λ other id h. on_waiter other id h (cases_eq task other);
      stays = λ other id l v h. stays other id (sym (living other) ∙ l) v (sym (w.pends id) ∙ h) (cases_eq task other);
    };
    must_cancel = λ other l m. may other (cases_eq task other) (is.must_cancel other (sym (living other) ∙ l) (sym (w.must_cancel other) ∙ m));
  }
    where
      callbacks : (id : ℕ) → (on ≡ id) ⊎ (on ≡ id → ⊥) → count_by is_no_callback (callbacks_of q id) ≡ 0
      callbacks id (inl same) =
          let a : count_by is_no_callback (callbacks_of q on) ≡ count_by is_no_callback (callbacks_of p on) + 0 =
          w.registered is_no_callback in
          let b = is.callbacks on in
          let c : count_by is_no_callback (callbacks_of q on) ≡ 0 = omega (arith, a, b) in
          subst (λ i. count_by is_no_callback (callbacks_of q i) ≡ 0) same c
      callbacks id (inr n) = ap (count_by is_no_callback) (w.elsewhere id n) ∙ is.callbacks id

      none_pending : (test : Action → Bool) → ((action : Action) → test action ≡ true → steps task action ≡ true)
          → 0 < pending_where test p.pending → ⊥
      none_pending test harder h =
          let a = fewer_pending test (steps task) harder p.pending in
          let b = idle in
          absurd (omega (arith, a, b, h))

      ready_free : (other : ℕ) → 0 < pending_where (resumes other) p.pending → (task ≡ other) ⊎ (task ≡ other → ⊥)
          → waiter_of q other ≡ None
      ready_free other h (inl same) =
          absurd (none_pending (resumes task) (resumes_steps task) (subst (λ t. 0 < pending_where (resumes t) p.pending) (sym same) h))
      ready_free other h (inr n) = w.others_wait other n ∙ is.ready.free other h

      woken : (other : ℕ) → 0 < pending_where (wakes other) p.pending → (task ≡ other) ⊎ (task ≡ other → ⊥)
          → (id : ℕ) × (waiter_of q other ≡ Some id) × (is_pending q id ≡ false)
      woken other h (inl same) =
          absurd (none_pending (wakes task) (wakes_steps task) (subst (λ t. 0 < pending_where (wakes t) p.pending) (sym same) h))
      woken other h (inr n) = let x = is.ready.woken other h in (x.0, w.others_wait other n ∙ x.1, w.pends x.0 ∙ x.2)

      waits_made : (other id : ℕ) → waiter_of q other ≡ Some id → (task ≡ other) ⊎ (task ≡ other → ⊥) → id < length p.futures
      waits_made other id v (inl same) =
          let t = pending_there p on here in
          subst (λ (i : ℕ). i < length p.futures) (same_Some on id (sym w.waits ∙ subst (λ t. waiter_of q t ≡ Some id) (sym same) v))
          (slice_get_within p.futures on t.future t.there)
      waits_made other id v (inr n) = is.waits_made other id (sym (w.others_wait other n) ∙ v)

      settled : (id : ℕ) → is_pending p id ≡ false → (on ≡ id) ⊎ (on ≡ id → ⊥) → callbacks_of q id ≡ []
      settled id h (inl same) = absurd (false≢true (sym h ∙ subst (λ i. is_pending p i ≡ true) same here))
      settled id h (inr n) = w.elsewhere id n ∙ is.settled id h

      on_waiter : (other id : ℕ) → 0 < wakeups_on q other id → (task ≡ other) ⊎ (task ≡ other → ⊥) → waiter_of q other ≡ Some id
      on_waiter other id h (inl same) = go (cases_eq on id)
        where
          go : (on ≡ id) ⊎ (on ≡ id → ⊥) → waiter_of q other ≡ Some id
          go (inl there) = subst (λ t. waiter_of q t ≡ Some id) same (w.waits ∙ ap Some there)
          go (inr m) =
              let z : wakeups_on q other id ≡ 0 = ap (count_by (steps other)) (w.elsewhere id m) ∙ subst (λ t. wakeups_on p t id ≡ 0) same (nowhere id) in
              absurd (omega (arith, z, h))
      on_waiter other id h (inr n) = w.others_wait other n ∙ is.one_way.on_waiter other id (subst (λ k. 0 < k) (others_on other id n) h)

      stays : (other id : ℕ) → lives p other ≡ true → waiter_of q other ≡ Some id → is_pending p id ≡ true → (task ≡ other) ⊎ (task ≡ other → ⊥)
          → wakeups_on q other id ≡ 1
      stays other id l v h (inl same) =
          let i : on ≡ id = same_Some on id (sym w.waits ∙ subst (λ t. waiter_of q t ≡ Some id) (sym same) v) in
          subst (λ t. wakeups_on q t id ≡ 1) same (subst (λ j. wakeups_on q task j ≡ 1) i mine_on)
      stays other id l v h (inr n) = others_on other id n ∙ is.one_way.stays other id l (sym (w.others_wait other n) ∙ v) h

      may : (other : ℕ) → (task ≡ other) ⊎ (task ≡ other → ⊥) → MayKeepMustCancel (Some task) p other → MayKeepMustCancel (Some task) q other
      may other (inl same) h = inl (eq-eqb task other same)
      may other (inr n) (inl r) = inl r
      may other (inr n) (inr (inl h)) = inr (inl (subst (λ l. 0 < steps_among other l) (sym w.pending) h))
      may other (inr n) (inr (inr v)) = inr (inr (v.0, w.others_wait other n ∙ v.1, w.pends v.0 ∙ v.2, spent v.0 v.3))

-- the excuse ends where the task need not cancel, or where it may be
pub unexcused : (running : Option ℕ) (task : ℕ) (p : Parts) → (must_cancel_of p task ≡ true → MayKeepMustCancel None p task)
    → ArePartsSound running (Some task) p
    → ArePartsSound running None p
unexcused who task p reason is = record {
  owns = is.owns;
  settled = is.settled;
  callbacks = is.callbacks;
  runs = is.runs;
  free = is.free;
  waits_made = is.waits_made;
  one_way = is.one_way;
  ready = is.ready;
  must_cancel = λ other l m. may other m (is.must_cancel other l m);
}
  where
    may : (other : ℕ) → must_cancel_of p other ≡ true → MayKeepMustCancel (Some task) p other → MayKeepMustCancel None p other
    may other m (inl r) = subst (MayKeepMustCancel None p) (running_is task other r)
        (reason (subst (λ t. must_cancel_of p t ≡ true) (sym (running_is task other r)) m))
    may other m (inr h) = inr h

pub task_there : (p : Parts) (task : ℕ) → lives p task ≡ true → (it : Task) × (slice_get p.tasks task ≡ Some it)
task_there p task l = at (slice_get p.tasks task) refl
  where
    at : (o : Option Task) → slice_get p.tasks task ≡ o → (it : Task) × (slice_get p.tasks task ≡ Some it)
    at None e =
        let f : future_of p task ≡ length p.futures = ap (λ (o : Option Task). option_map_or (λ (x : Task). x.future) o (length p.futures)) e in
        let none : slice_get p.futures (future_of p task) ≡ None =
        subst (λ i. slice_get p.futures i ≡ None) (sym f) (slice_get_past p.futures (length p.futures) (omega arith)) in
        absurd (false≢true (sym (ap is_pending_at none) ∙ l))
    at (Some it) e = (it, e)

pub suspend_sound : (task on : ℕ) (p : Parts) → is_pending p on ≡ true → ArePartsSound (Some task) (Some task) p
    → ArePartsSound None None (suspend task on p).parts
suspend_sound task on p here is = at (cycle p task on)
  where
    w : IsWaiting task on p (wait_on task on p)
    w = let u = task_there p task (is.runs task (eq-eqb task task refl)) in let g = pending_there p on here in
        wait_effect task on p u.0 g.future u.1 g.there g.pending

    waits : ArePartsSound None (Some task) (wait_on task on p)
    waits = waiting_sound task on p (wait_on task on p) w here is

    asked : ArePartsSound None (Some task) (cancel on (wait_on task on p)).parts
    asked = cancel_sound None (Some task) (λ other r. absurd (false≢true r)) on (wait_on task on p) waits

    answered : (b : Bool) → (cancel on (wait_on task on p)).answer ≡ b
        → ArePartsSound None None (cond b (clear_must_cancel task (cancel on (wait_on task on p)).parts) (cancel on (wait_on task on p)).parts)
    answered true e =
        let r = (cancel on (wait_on task on p)).parts in
        unexcused None task (clear_must_cancel task r) (λ m. absurd (false≢true (sym (cleared task r) ∙ m)))
        (clear_must_cancel_sound None (Some task) task r asked)
    answered false e =
        let still = with_still on [] (wait_on task on p) e in
        let spent : is_spent (wait_on task on p) on ≡ true =
        not-false (is_spent (wait_on task on p) on) (sym (with_answer_spent on [] (wait_on task on p)) ∙ e) in
        subst (λ (r : CancelRequest). ArePartsSound None None r.parts) (sym still)
        (unexcused None task (wait_on task on p) (λ m. inr (inr (on, w.waits, w.pends on ∙ here, spent))) waits)

    must_cancel : (b : Bool) → must_cancel_of p task ≡ b → ArePartsSound None None (cancel_wait b task on (wait_on task on p)).parts
    must_cancel false e = unexcused None task (wait_on task on p) (λ m. absurd (false≢true (sym e ∙ sym (w.must_cancel task) ∙ m))) waits
    must_cancel true e = answered (cancel on (wait_on task on p)).answer refl

    at : (o : Option CycleKind) → ArePartsSound None None (suspend_unless o task on p).parts
    at (Some why) = soon_step_sound task (StepInCycle task why) p (eq-eqb task task refl) is
    at None = must_cancel (must_cancel_of p task) refl
