-- A request keeps the parts sound.
use Rattle.std.proofs.Common.{◌≡◌, ℕ, suc, ◌<◌, ◌⊎◌, Bool, true, false, List, [], Option, Some, None, length, option_map, slice_get, slice_set, refl, ap, sym}
use Rattle.std.proofs.Common.{subst, ◌∙◌, inl, inr, arith, ◌≤◌}
use Rattle.std.proofs.lemmas.Bool.{cases_eq, cases_Bool, cases_lt, false≢true}
use Rattle.std.proofs.lemmas.Option.{none-some, slice_get_within}
use Rattle.std.specs.List.{count_by}
use Rattle.std.specs.Option.{option_map_or}
use Rattle.model_value.specs.declared.outcome.Outcome.TheVariants.{Cancelled}
use Rattle.model_loop.specs.Parts.{Task, Parts, Future, FutureKind, Many, OfTask, Plain}
use Rattle.model_loop.specs.Futures.{is_pending, settle}
use Rattle.model_loop.specs.Tasks.{lives, waiter_of, future_of, must_cancel_of, set_must_cancel}
use Rattle.model_loop.specs.Spent.{spent_by, is_spent}
use Rattle.model_loop.specs.Cancel.{cancel}
use Rattle.model_loop.specs.Ways.{steps, steps_among, wakeups_on, is_running, wakeups_at, ways, HasOneWay, IsReady, resumes, wakes}
use Rattle.model_loop.specs.Totals.{callbacks_of, callbacks_at, pending_where}
use Rattle.model_loop.specs.MustCancel.{MayKeepMustCancel}
use Rattle.law_cancel.proofs.Lookups.{get-set_other}
use Rattle.law_cancel.proofs.Counting.{change_task-kept}
use Rattle.law_cancel.proofs.Effects.{mark_asked-tasks}
use Rattle.law_steps.specs.Frames.{IsNoTask, Covers, IsOnWaiter}
use Rattle.model_loop.specs.Owning.{owner_in, owner_at, owner_of, own_future, OwnsFutures, AreSettled, AreCallbacks, is_no_callback, is_plain}
use Rattle.model_loop.specs.Sound.{ArePartsSound}
use Rattle.model_loop.proofs.FutureCases.{is_plain_at, is_plain_kind}
use Rattle.law_steps.proofs.Settling.{IsSettled, settle_effect, count_fewer, settle_cases}
use Rattle.law_steps.proofs.SettleWays.{settled-waiter, settled-pending, settled-lives, settled_keeps}
use Rattle.law_steps.proofs.Looks.{LooksSame, future_of-owned, spent_grows_below, same-lives, same_ways, same_owns, same_settled, same_may, same_must_cancel}
use Rattle.law_steps.proofs.Looks.{change_looks_same, asked_looks_same, same_callbacks, same_ready}
use Rattle.law_steps.proofs.Spreading.{CanMustCancel, begins, settles, asks, raises, sets_must_cancel, with_spread, Spreads}
use Rattle.model_value.specs.declared.action.Action.TheVariants.{Step, StepInCycle, Wakeup}
use Rattle.model_value.specs.Action.{Action}
use Rattle.model_value.specs.Value.{Outcome}

-- ---- a future that is no task's
pub is_no_task : (p : Parts) → OwnsFutures p → (id : ℕ) → owner_of p id ≡ None → id < length p.futures → IsNoTask p id
is_no_task p owns id none within task same = at (own_future p task) refl
  where
    at : (o : Option ℕ) → own_future p task ≡ o → ⊥
    at None e =
        let f : future_of p task ≡ length p.futures = future_of-owned p task ∙ ap (λ o. option_map_or (λ (i : ℕ). i) o (length p.futures)) e in
        absurd (omega (arith, within, same, f))
    at (Some own) e =
        let f : future_of p task ≡ own = future_of-owned p task ∙ ap (λ o. option_map_or (λ (i : ℕ). i) o (length p.futures)) e in
        none-some task (sym none ∙ (owns id task).1 (e ∙ ap Some (sym (same ∙ f))))

pub plain_within : (p : Parts) (id : ℕ) → is_plain p id ≡ true → (owner_of p id ≡ None) × (id < length p.futures)
plain_within p id h = at (slice_get p.futures id) refl h
  where
    kind : (k : FutureKind) → is_plain_kind k ≡ true → owner_in k ≡ None
    kind Plain h = refl
    kind (OfTask task) h = absurd (false≢true h)
    kind (Many members asked) h = absurd (false≢true h)

    at : (o : Option Future) → slice_get p.futures id ≡ o → is_plain_at o ≡ true → (owner_of p id ≡ None) × (id < length p.futures)
    at None e h = absurd (false≢true h)
    at (Some future) e h = (ap owner_at e ∙ kind future.kind h, slice_get_within p.futures id future e)

pub plain_no_task : (p : Parts) → OwnsFutures p → (id : ℕ) → is_plain p id ≡ true → IsNoTask p id
plain_no_task p owns id h = let x = plain_within p id h in is_no_task p owns id x.0 x.1

-- ---- an outcome
pub settled_spent : {id : ℕ} {p q : Parts} → IsSettled id p q → (on : ℕ) → is_spent p on ≡ true → is_spent q on ≡ true
settled_spent {id} {p} {q} s on = spent_grows_below (suc on) p q each on
  where
    each : (f : ℕ → Bool) (j : ℕ) → (spent_by f (slice_get q.futures j) j ≡ spent_by f (slice_get p.futures j) j) ⊎ (is_pending q j ≡ false)
    each f j = go (cases_eq id j)
      where
        go : (id ≡ j) ⊎ (id ≡ j → ⊥) → (spent_by f (slice_get q.futures j) j ≡ spent_by f (slice_get p.futures j) j) ⊎ (is_pending q j ≡ false)
        go (inl same) = inr (subst (λ i. is_pending q i ≡ false) same s.done)
        go (inr n) = inl (ap (λ o. spent_by f o j) (s.others j n))

pub settled_may : {running : Option ℕ} (excused : Option ℕ) {id : ℕ} {p q : Parts} → IsSettled id p q → HasOneWay running p → (task : ℕ)
    → lives p task ≡ true → MayKeepMustCancel excused p task → MayKeepMustCancel excused q task
settled_may excused s is task l (inl r) = inl r
settled_may excused s is task l (inr (inl h)) = let c = s.called (steps task) in inr (inl (omega (arith, h, c)))
settled_may {running} excused {id} {p} {q} s is task l (inr (inr w)) = go (cases_eq id w.0)
  where
    go : (id ≡ w.0) ⊎ (id ≡ w.0 → ⊥) → MayKeepMustCancel excused q task
    go (inl same) =
        let one : wakeups_on p task id ≡ 1 = subst (λ j. wakeups_on p task j ≡ 1) (sym same) (is.stays task w.0 l w.1 w.2) in
        let c = s.called (steps task) in
        inr (inl (omega (arith, one, c)))
    go (inr n) = inr (inr (w.0, settled-waiter s task ∙ w.1, settled-pending s w.0 n ∙ w.2, settled_spent s w.0 w.3))

pub settled_must_cancel : {id : ℕ} {p q : Parts} → IsSettled id p q → (task : ℕ) → must_cancel_of q task ≡ must_cancel_of p task
settled_must_cancel s task = ap (λ (ts : List Task). option_map_or (λ (t : Task). t.must_cancel) (slice_get ts task) false) s.tasks

pub settled_settled : (id : ℕ) (p q : Parts) → IsSettled id p q → AreSettled p → AreSettled q
settled_settled id p q s settled j h = go (cases_eq id j)
  where
    go : (id ≡ j) ⊎ (id ≡ j → ⊥) → callbacks_of q j ≡ []
    go (inl same) = subst (λ i. callbacks_of q i ≡ []) same s.none
    go (inr n) = ap callbacks_at (s.others j n) ∙ settled j (sym (settled-pending s j n) ∙ h)

pub settled_owns : (id : ℕ) (p q : Parts) → IsSettled id p q → OwnsFutures p → OwnsFutures q
settled_owns id p q s owns j task = (λ h. owned ∙ (owns j task).0 (sym owners ∙ h), λ h. owners ∙ (owns j task).1 (sym owned ∙ h))
  where
    owned : own_future q task ≡ own_future p task
    owned = ap (λ (ts : List Task). option_map (λ (t : Task). t.future) (slice_get ts task)) s.tasks

    owners : owner_of q j ≡ owner_of p j
    owners = go (cases_eq id j)
      where
        go : (id ≡ j) ⊎ (id ≡ j → ⊥) → owner_of q j ≡ owner_of p j
        go (inl same) = subst (λ i. owner_of q i ≡ owner_of p i) same s.owner
        go (inr n) = ap owner_at (s.others j n)

-- ---- what is called when a future is done
pub settled_callbacks : (id : ℕ) (p q : Parts) → IsSettled id p q → AreCallbacks p → AreCallbacks q
settled_callbacks id p q s are j = go (cases_eq id j)
  where
    go : (id ≡ j) ⊎ (id ≡ j → ⊥) → count_by is_no_callback (callbacks_of q j) ≡ 0
    go (inl same) = subst (λ i. count_by is_no_callback (callbacks_of q i) ≡ 0) same (ap (count_by is_no_callback) s.none)
    go (inr n) = ap (λ o. count_by is_no_callback (callbacks_at o)) (s.others j n) ∙ are j

-- no step that waits for nothing is a callback
resumes_no_callback : (task : ℕ) (action : Action) → resumes task action ≡ true → is_no_callback action ≡ true
resumes_no_callback task (Step other) h = refl
resumes_no_callback task (StepInCycle other cycle) h = refl
resumes_no_callback task _ h = absurd (false≢true h)

pub wakes_steps : (task : ℕ) (action : Action) → wakes task action ≡ true → steps task action ≡ true
wakes_steps task (Wakeup other) h = h
wakes_steps task _ h = absurd (false≢true h)

pub settled_ready : (id : ℕ) (p q : Parts) → IsSettled id p q → AreCallbacks p → IsOnWaiter p → IsReady p → IsReady q
settled_ready id p q s are home is = record { free = free; woken = woken }
  where
    free : (task : ℕ) → 0 < pending_where (resumes task) q.pending → waiter_of q task ≡ None
    free task h =
        let a = s.called (resumes task) in
        let b = count_fewer (resumes task) is_no_callback (resumes_no_callback task) (callbacks_of p id) in
        let c = are id in
        settled-waiter s task ∙ is.free task (omega (arith, a, b, c, h))

    woken : (task : ℕ) → 0 < pending_where (wakes task) q.pending
        → (on : ℕ) × (waiter_of q task ≡ Some on) × (is_pending q on ≡ false)
    woken task h = go (cases_lt 0 (pending_where (wakes task) p.pending))
      where
        done : (on : ℕ) → is_pending p on ≡ false → (id ≡ on) ⊎ (id ≡ on → ⊥) → is_pending q on ≡ false
        done on d (inl same) = subst (λ i. is_pending q i ≡ false) same s.done
        done on d (inr n) = settled-pending s on n ∙ d

        go : (0 < pending_where (wakes task) p.pending) ⊎ (pending_where (wakes task) p.pending ≤ 0)
            → (on : ℕ) × (waiter_of q task ≡ Some on) × (is_pending q on ≡ false)
        go (inl x) =
            let w = is.woken task x in
            (w.0, settled-waiter s task ∙ w.1, done w.0 w.2 (cases_eq id w.0))
        go (inr x) =
            let a = s.called (wakes task) in
            let b = count_fewer (wakes task) (steps task) (wakes_steps task) (callbacks_of p id) in
            (id, settled-waiter s task ∙ home task id (omega (arith, a, b, h, x)), s.done)

-- a future that is no task's gets its outcome
pub settled_sound : (running excused : Option ℕ) (id : ℕ) (p q : Parts) → IsNoTask p id → ArePartsSound running excused p → IsSettled id p q
    → ArePartsSound running excused q
settled_sound running excused id p q free is s = record {
  owns = settled_owns id p q s is.owns;
  settled = settled_settled id p q s is.settled;
  callbacks = settled_callbacks id p q s is.callbacks;
  runs = λ task r. settled-lives s task (free task) ∙ is.runs task r;
  free = λ task r. settled-waiter s task ∙ is.free task r;
  waits_made = λ task on w. subst (λ (n : ℕ). on < n) (sym s.made) (is.waits_made task on (sym (settled-waiter s task) ∙ w));
  one_way = settled_keeps running id p q free is.one_way s;
  ready = settled_ready id p q s is.callbacks is.one_way.on_waiter is.ready;
  must_cancel = λ task l m. let l' = sym (settled-lives s task (free task))
      ∙ l in settled_may excused s is.one_way task l' (is.must_cancel task l' (sym (settled_must_cancel s task) ∙ m));
}

-- ---- what looks the same
pub same_sound : (running excused : Option ℕ) (p q : Parts) → LooksSame p q → ((task : ℕ) → must_cancel_of q task ≡ true → must_cancel_of p task ≡ true)
    → ArePartsSound running excused p → ArePartsSound running excused q
same_sound running excused p q s fewer is = record {
  owns = same_owns p q s is.owns;
  settled = same_settled p q s is.settled;
  callbacks = same_callbacks p q s is.callbacks;
  runs = λ task r. same-lives s task ∙ is.runs task r;
  free = λ task r. s.waiters task ∙ is.free task r;
  waits_made = λ task on w. subst (λ (n : ℕ). on < n) (sym s.made) (is.waits_made task on (sym (s.waiters task) ∙ w));
  one_way = same_ways running p q s is.one_way;
  ready = same_ready p q s is.ready;
  must_cancel = same_must_cancel excused p q s fewer is.must_cancel;
}

-- ---- must_cancel: a task that waits for nothing that can be cancelled runs, or will be stepped, or waits for what is spent
must_cancel_may : (running excused : Option ℕ) → Covers running excused → (p : Parts) → ArePartsSound running excused p → (task : ℕ) → lives p task ≡ true
    → CanMustCancel p task → MayKeepMustCancel excused p task
must_cancel_may running excused covers p is task l can = go (cases_Bool (is_running running task))
  where
    -- one way, none of them on the waiter
    stepped : is_running running task ≡ false → wakeups_at p task (waiter_of p task) ≡ 0 → 0 < steps_among task p.pending
    stepped r z =
        let one : ways p task ≡ 1 = is.one_way.one task ∙ rw (l, r) refl in
        omega (arith, one, z)

    waits : is_running running task ≡ false → CanMustCancel p task → MayKeepMustCancel excused p task
    waits r (inl none) = inr (inl (stepped r (ap (wakeups_at p task) none)))
    waits r (inr w) = at (cases_Bool (is_pending p w.0))
      where
        at : (is_pending p w.0 ≡ true) ⊎ (is_pending p w.0 ≡ false) → MayKeepMustCancel excused p task
        at (inl pending) = inr (inr (w.0, w.1, pending, w.2))
        at (inr done) = inr (inl (stepped r (ap (wakeups_at p task) w.1 ∙ ap (count_by (steps task)) (is.settled w.0 done))))

    go : (is_running running task ≡ true) ⊎ (is_running running task ≡ false) → MayKeepMustCancel excused p task
    go (inl r) = inl (covers task r)
    go (inr r) = waits r can

set_must_cancel_sound : (running excused : Option ℕ) → Covers running excused → (id : ℕ) (p : Parts) → CanMustCancel p id → ArePartsSound running excused p
    → ArePartsSound running excused (set_must_cancel id p)
set_must_cancel_sound running excused covers id p can is = record {
  owns = same_owns p (set_must_cancel id p) s is.owns;
  settled = same_settled p (set_must_cancel id p) s is.settled;
  callbacks = same_callbacks p (set_must_cancel id p) s is.callbacks;
  runs = λ task r. same-lives s task ∙ is.runs task r;
  free = λ task r. s.waiters task ∙ is.free task r;
  waits_made = λ task on w. subst (λ (n : ℕ). on < n) (sym s.made) (is.waits_made task on (sym (s.waiters task) ∙ w));
  one_way = same_ways running p (set_must_cancel id p) s is.one_way;
  ready = same_ready p (set_must_cancel id p) s is.ready;
  must_cancel = λ task l m. same_may excused p (set_must_cancel id p) s task (may task (sym (same-lives s task) ∙ l) m (cases_eq id task));
}
  where
    s : LooksSame p (set_must_cancel id p)
    s = change_looks_same id _ p (λ t. refl) (λ t. refl)

    may : (task : ℕ) → lives p task ≡ true → must_cancel_of (set_must_cancel id p) task ≡ true → (id ≡ task) ⊎ (id ≡ task → ⊥)
        → MayKeepMustCancel excused p task
    may task l m (inl same) = must_cancel_may running excused covers p is task l (subst (CanMustCancel p) same can)
    may task l m (inr n) = is.must_cancel task l (sym (others task n) ∙ m)
      where
        others : (task : ℕ) → (id ≡ task → ⊥) → must_cancel_of (set_must_cancel id p) task ≡ must_cancel_of p task
        others task n = at (slice_get p.tasks id)
          where
            at : (o : Option Task)
                → must_cancel_of (option_map_or (λ (t : Task). record p { tasks = slice_set p.tasks id (record t { must_cancel = true }) }) o p) task
                ≡ must_cancel_of p task
            at None = refl
            at (Some t) = ap (λ (o : Option Task). option_map_or (λ (t : Task). t.must_cancel) o false)
                (get-set_other p.tasks id task (record t { must_cancel = true }) n)

-- ---- the request
pub cancels_sound : (running excused : Option ℕ) → Covers running excused → {s : List ℕ} {p : Parts} {t : List ℕ} {q : Parts} → Spreads s p t q
    → ArePartsSound running excused p → ArePartsSound running excused q
cancels_sound running excused covers begins is = is
cancels_sound running excused covers (settles {q = q} g id future e o k) is =
    let ih = cancels_sound running excused covers g is in
    settled_sound running excused id q (settle id Cancelled q)
    (is_no_task q ih.owns id (ap owner_at e ∙ ap owner_in k) (slice_get_within q.futures id future e)) ih (settle_effect id Cancelled q future e o)
cancels_sound running excused covers (asks {q = q} g id future members asked e o k) is =
    same_sound running excused q _ (asked_looks_same id q future e)
    (λ task m. sym (ap (λ (ts : List Task). option_map_or (λ (t : Task). t.must_cancel) (slice_get ts task) false) (mark_asked-tasks id q)) ∙ m)
    (cancels_sound running excused covers g is)
cancels_sound running excused covers (raises {q = q} g id task n e) is =
    same_sound running excused q _ (change_looks_same id _ q (λ t. refl) (λ t. refl))
    (λ u m. sym (change_task-kept (λ (o : Option Task). option_map_or (λ (t : Task). t.must_cancel) o false) id _ q (λ t. refl) u) ∙ m)
    (cancels_sound running excused covers g is)
cancels_sound running excused covers (sets_must_cancel {q = q} g id can) is =
    set_must_cancel_sound running excused covers id q can (cancels_sound running excused covers g is)

pub cancel_sound : (running excused : Option ℕ) → Covers running excused → (id : ℕ) (p : Parts) → ArePartsSound running excused p
    → ArePartsSound running excused (cancel id p).parts
cancel_sound running excused covers id p is = cancels_sound running excused covers (with_spread id [] p) is

pub settle_sound : (running excused : Option ℕ) (id : ℕ) (outcome : Outcome) (p : Parts) → IsNoTask p id
    → ArePartsSound running excused p → ArePartsSound running excused (settle id outcome p)
settle_sound running excused id outcome p free is =
    settle_cases (ArePartsSound running excused) id outcome p is (λ q s. settled_sound running excused id p q free is s)
