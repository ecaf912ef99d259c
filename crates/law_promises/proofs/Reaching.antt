-- A cancel goes on from each task that it comes to: the task must cancel, or what it waits for was reached.
use Rattle.std.proofs.Common.{◌≡◌, ℕ, Bool, List, None, Option, Some, [], ap, false, inl, inr, option_map, refl, slice_get, slice_set, subst, sym, true, ◌++◌}
use Rattle.std.proofs.Common.{◌||◌, ◌∙◌, ◌∷◌, ◌⊎◌, zero, suc, arith, is_none, Contains}
use Rattle.model_loop.specs.Parts.{Future, FutureKind, Many, OfTask, Parts, Plain, Task}
use Rattle.model_loop.specs.Tasks.{change_task, must_cancel_of, set_must_cancel, raise_count, waiter_of}
use Rattle.law_cancel.proofs.CancelCases.{asked_where, must_cancel_unless}
use Rattle.law_cancel.proofs.Effects.{asked_as, change_task-futures, change_task-there, done_as, settle-futures, settle-tasks}
use Rattle.law_promises.specs.Reached.{RequestGoesOn, WasReached, asked_at, asked_in, was_asked, members_at, members_in, members_of}
use Rattle.law_promises.specs.Reached.{ended as ended_row, visited as came_row, asked as asked_row}
use Rattle.model_loop.specs.Cancel.{CancelRequest, answers, cancel, has_seen}
use Rattle.model_loop.specs.Futures.{asked_kind, future_outcome, is_pending, is_pending_at, made_before, mark_asked, outcome_at, settle, with_future}
use Rattle.model_loop.specs.Owning.{OwnsFutures, own_future, owner_at, owner_in, owner_of}
use Rattle.std.proofs.lemmas.Bool.{cases_eq, false≢true, or_cases, or_left}
use Rattle.law_cancel.proofs.Seen.{has_seen-append, has_seen_last, has_seen_other}
use Rattle.model_loop.specs.Cancelling.{IsPendingAs, Cancels, CancelsEach, CancelsWaiter, done as done_row, plain as plain_row, many as many_row}
use Rattle.model_loop.specs.Cancelling.{visited as visited_row, task as task_row, no_task as no_task_row, none as none_row, each as each_row}
use Rattle.model_loop.specs.Cancelling.{waits_not as waits_not_row, waits as waits_row}
use Rattle.law_cancel.proofs.Lookups.{get-set_kept, get-set_other, get-set_same}
use Rattle.law_cancel.proofs.Meeting.{cancel_meets}
use Rattle.law_steps.proofs.Stepping.{at_task}
use Rattle.std.proofs.lemmas.Option.{none-some}
use Rattle.law_cancel.proofs.Trace.{kind_many}
use Rattle.std.specs.Option.{option_map_or}
use Rattle.law_cancel.proofs.Counting.{change_task-kept}
use Rattle.model_value.specs.declared.outcome.Outcome.TheVariants.{Cancelled}

abbrev kind_many_at : Option Future → Bool
kind_many_at None = false
kind_many_at (Some future) = kind_many future.kind

-- ---- what stays while a request goes on
record Persists (s : List ℕ) (p : Parts) (t : List ℕ) (q : Parts) : Type 0 where
  seen : (task : ℕ) → has_seen s task ≡ true → has_seen t task ≡ true
  must_cancel : (task : ℕ) → must_cancel_of p task ≡ true → must_cancel_of q task ≡ true
  waiters : (task : ℕ) → waiter_of q task ≡ waiter_of p task
  owned : (task : ℕ) → own_future q task ≡ own_future p task
  owners : (id : ℕ) → owner_of q id ≡ owner_of p id
  cancelled : (id : ℕ) → future_outcome p id ≡ Some Cancelled → future_outcome q id ≡ Some Cancelled
  asked : (id : ℕ) → was_asked p id ≡ true → was_asked q id ≡ true
  manys : (id : ℕ) → kind_many_at (slice_get q.futures id) ≡ kind_many_at (slice_get p.futures id)
  pending : (id : ℕ) → is_pending q id ≡ true → is_pending p id ≡ true
  members : (id : ℕ) → members_of q id ≡ members_of p id

stays : (s : List ℕ) (p : Parts) → Persists s p s p
stays s p = record {
  seen = λ t h. h;
  must_cancel = λ t h. h;
  waiters = λ t. refl;
  owned = λ t. refl;
  owners = λ j. refl;
  cancelled = λ j h. h;
  asked = λ j h. h;
  manys = λ j. refl;
  pending = λ j h. h;
  members = λ j. refl;
}

persists_on : (s t u : List ℕ) (p q r : Parts) → Persists t q u r → Persists s p t q → Persists s p u r
persists_on s t u p q r b a = record {
  seen = λ x h. b.seen x (a.seen x h);
  must_cancel = λ x h. b.must_cancel x (a.must_cancel x h);
  waiters = λ x. b.waiters x ∙ a.waiters x;
  owned = λ x. b.owned x ∙ a.owned x;
  owners = λ j. b.owners j ∙ a.owners j;
  cancelled = λ j h. b.cancelled j (a.cancelled j h);
  asked = λ j h. b.asked j (a.asked j h);
  manys = λ j. b.manys j ∙ a.manys j;
  pending = λ j h. a.pending j (b.pending j h);
  members = λ j. b.members j ∙ a.members j;
}

-- a task's count or must_cancel, where no must_cancel falls
changed : (s : List ℕ) (id : ℕ) (change : Task → Task) (p : Parts) → ((t : Task) → (change t).waiter ≡ t.waiter)
    → ((t : Task) → (change t).future ≡ t.future) → ((task : ℕ) → must_cancel_of p task ≡ true → must_cancel_of (change_task id change p) task ≡ true)
    → Persists s p s (change_task id change p)
changed s id change p waiter future must_cancel = record {
  seen = λ t h. h;
  must_cancel = must_cancel;
  waiters = λ t. change_task-kept (λ (o : Option Task). option_map_or (λ (x : Task). x.waiter) o None) id change p waiter t;
  owned = λ t. change_task-kept (option_map (λ (x : Task). x.future)) id change p (λ x. ap Some (future x)) t;
  owners = λ j. ap (λ (fs : List Future). owner_at (slice_get fs j)) (change_task-futures id change p);
  cancelled = λ j h. ap (λ (fs : List Future). outcome_at (slice_get fs j)) (change_task-futures id change p) ∙ h;
  asked = λ j h. ap (λ (fs : List Future). asked_at (slice_get fs j)) (change_task-futures id change p) ∙ h;
  manys = λ j. ap (λ (fs : List Future). kind_many_at (slice_get fs j)) (change_task-futures id change p);
  pending = λ j h. sym (ap (λ (fs : List Future). is_pending_at (slice_get fs j)) (change_task-futures id change p)) ∙ h;
  members = λ j. ap (λ (fs : List Future). made_before j (members_at (slice_get fs j))) (change_task-futures id change p);
}

raise_stays : (s : List ℕ) (id : ℕ) (p : Parts) → Persists s p s (raise_count id p)
raise_stays s id p =
    changed s id _ p (λ t. refl) (λ t. refl)
    (λ t m. change_task-kept (λ (o : Option Task). option_map_or (λ (x : Task). x.must_cancel) o false) id _ p (λ x. refl) t ∙ m)

-- ---- must_cancel
sets_must_cancel_of : (id : ℕ) (p : Parts) (it : Task) → slice_get p.tasks id ≡ Some it → must_cancel_of (set_must_cancel id p) id ≡ true
sets_must_cancel_of id p it e =
    ap (λ (q : Parts). option_map_or (λ (t : Task). t.must_cancel) (slice_get q.tasks id) false) (change_task-there id _ p it e)
    ∙ ap (λ (o : Option Task). option_map_or (λ (t : Task). t.must_cancel) o false)
    (get-set_same p.tasks id it (record it { must_cancel = true }) e)

pub must_cancel_more : (id : ℕ) (p : Parts) (task : ℕ) → must_cancel_of p task ≡ true → must_cancel_of (set_must_cancel id p) task ≡ true
must_cancel_more id p task m = at (slice_get p.tasks id) refl
  where
    at : (o : Option Task) → slice_get p.tasks id ≡ o → must_cancel_of (set_must_cancel id p) task ≡ true
    at None e = ap (λ (o : Option Task). must_cancel_of
        (option_map_or (λ (t : Task). record p { tasks = slice_set p.tasks id (record t { must_cancel = true }) }) o p) task) e ∙ m
    at (Some it) e = go (cases_eq id task)
      where
        go : (id ≡ task) ⊎ (id ≡ task → ⊥) → must_cancel_of (set_must_cancel id p) task ≡ true
        go (inl same) = subst (λ t. must_cancel_of (set_must_cancel id p) t ≡ true) same (sets_must_cancel_of id p it e)
        go (inr n) =
            at_task (λ (o : Option Task). option_map_or (λ (t : Task). t.must_cancel) o false) id _ p task n ∙ m

must_cancel_stays : (s : List ℕ) (id : ℕ) (p : Parts) → Persists s p s (set_must_cancel id p)
must_cancel_stays s id p = changed s id _ p (λ t. refl) (λ t. refl) (must_cancel_more id p)

-- ---- a plain future is cancelled
settle_stays : (s : List ℕ) (id : ℕ) (p : Parts) (future : Future) → slice_get p.futures id ≡ Some future → future.outcome ≡ None
    → Persists s p s (settle id Cancelled p)
settle_stays s id p future e o = record {
  seen = λ t h. h;
  must_cancel = λ t m. ap (λ (ts : List Task). option_map_or (λ (x : Task). x.must_cancel) (slice_get ts t) false) tasks ∙ m;
  waiters = λ t. ap (λ (ts : List Task). option_map_or (λ (x : Task). x.waiter) (slice_get ts t) None) tasks;
  owned = λ t. ap (λ (ts : List Task). option_map (λ (x : Task). x.future) (slice_get ts t)) tasks;
  owners = λ j. see owner_at j refl;
  cancelled = λ j h. cancelled j h (cases_eq id j);
  asked = λ j h. see asked_at j refl ∙ h;
  manys = λ j. see kind_many_at j refl;
  pending = λ j h. pending j h (cases_eq id j);
  members = λ j. ap (made_before j) (see members_at j refl);
}
  where
    tasks : (settle id Cancelled p).tasks ≡ p.tasks
    tasks = settle-tasks id Cancelled p

    see : {Y : Type 0} (f : Option Future → Y) (j : ℕ) → f (Some (done_as Cancelled future)) ≡ f (Some future)
        → f (slice_get (settle id Cancelled p).futures j) ≡ f (slice_get p.futures j)
    see f j same =
        ap (λ (fs : List Future). f (slice_get fs j)) (settle-futures id Cancelled p future e o)
        ∙ get-set_kept f p.futures id j future (done_as Cancelled future) e same

    pending : (j : ℕ) → is_pending (settle id Cancelled p) j ≡ true → (id ≡ j) ⊎ (id ≡ j → ⊥) → is_pending p j ≡ true
    pending j h (inl same) = subst (λ i. is_pending p i ≡ true) same (ap is_pending_at e ∙ ap is_none o)
    pending j h (inr n) =
        sym (ap (λ (fs : List Future). is_pending_at (slice_get fs j)) (settle-futures id Cancelled p future e o)
        ∙ ap is_pending_at (get-set_other p.futures id j (done_as Cancelled future) n)) ∙ h

    cancelled : (j : ℕ) → future_outcome p j ≡ Some Cancelled → (id ≡ j) ⊎ (id ≡ j → ⊥)
        → future_outcome (settle id Cancelled p) j ≡ Some Cancelled
    cancelled j h (inl same) =
        subst (λ i. future_outcome (settle id Cancelled p) i ≡ Some Cancelled) same
        (ap (λ (fs : List Future). outcome_at (slice_get fs id)) (settle-futures id Cancelled p future e o)
        ∙ ap outcome_at (get-set_same p.futures id future (done_as Cancelled future) e))
    cancelled j h (inr n) =
        ap (λ (fs : List Future). outcome_at (slice_get fs j)) (settle-futures id Cancelled p future e o)
        ∙ ap outcome_at (get-set_other p.futures id j (done_as Cancelled future) n) ∙ h

settle_cancels : (id : ℕ) (p : Parts) (future : Future) → slice_get p.futures id ≡ Some future → future.outcome ≡ None
    → future_outcome (settle id Cancelled p) id ≡ Some Cancelled
settle_cancels id p future e o =
    ap (λ (fs : List Future). outcome_at (slice_get fs id)) (settle-futures id Cancelled p future e o)
    ∙ ap outcome_at (get-set_same p.futures id future (done_as Cancelled future) e)

-- ---- one that stands for several keeps that it was asked
ask_stays : (s : List ℕ) (id : ℕ) (p : Parts) → Persists s p s (mark_asked id p)
ask_stays s id p = at (slice_get p.futures id) refl
  where
    kinds : (k : FutureKind)
        → (owner_in (asked_kind k) ≡ owner_in k) × (asked_in k ≡ true → asked_in (asked_kind k) ≡ true)
        × (kind_many (asked_kind k) ≡ kind_many k) × (members_in (asked_kind k) ≡ members_in k)
    kinds Plain = (refl, λ h. h, refl, refl)
    kinds (OfTask task) = (refl, λ h. h, refl, refl)
    kinds (Many members asked) = (refl, λ h. refl, refl, refl)

    with_it : (future : Future) → slice_get p.futures id ≡ Some future
        → Persists s p s (record p { futures = slice_set p.futures id (asked_as future) })
    with_it future e = record {
      seen = λ t h. h;
      must_cancel = λ t m. m;
      waiters = λ t. refl;
      owned = λ t. refl;
      owners = λ j. get-set_kept owner_at p.futures id j future (asked_as future) e (kinds future.kind).0;
      cancelled = λ j h. get-set_kept outcome_at p.futures id j future (asked_as future) e refl ∙ h;
      asked = λ j h. asked j h (cases_eq id j);
      manys = λ j. get-set_kept kind_many_at p.futures id j future (asked_as future) e (kinds future.kind).2;
      pending = λ j h. sym (get-set_kept is_pending_at p.futures id j future (asked_as future) e refl) ∙ h;
      members = λ j. ap (made_before j) (get-set_kept members_at p.futures id j future (asked_as future) e (kinds future.kind).3);
    }
      where
        asked : (j : ℕ) → was_asked p j ≡ true → (id ≡ j) ⊎ (id ≡ j → ⊥)
            → asked_at (slice_get (slice_set p.futures id (asked_as future)) j) ≡ true
        asked j h (inl same) =
            subst (λ i. asked_at (slice_get (slice_set p.futures id (asked_as future)) i) ≡ true) same
            (ap asked_at (get-set_same p.futures id future (asked_as future) e)
            ∙ (kinds future.kind).1 (sym (ap asked_at e) ∙ subst (λ i. was_asked p i ≡ true) (sym same) h))
        asked j h (inr n) = ap asked_at (get-set_other p.futures id j (asked_as future) n) ∙ h

    at : (o : Option Future) → slice_get p.futures id ≡ o
        → Persists s p s (option_map_or (λ (f : Future). with_future id (asked_as f) p) o p)
    at None e = stays s p
    at (Some future) e = with_it future e

asks_it : (id : ℕ) (p : Parts) → kind_many_at (slice_get p.futures id) ≡ true → was_asked (mark_asked id p) id ≡ true
asks_it id p h = at (slice_get p.futures id) refl h
  where
    many : (k : FutureKind) → kind_many k ≡ true → asked_in (asked_kind k) ≡ true
    many (Many members asked) h = refl
    many Plain h = absurd (false≢true h)
    many (OfTask task) h = absurd (false≢true h)

    at : (o : Option Future) → slice_get p.futures id ≡ o → kind_many_at o ≡ true
        → was_asked (option_map_or (λ (f : Future). with_future id (asked_as f) p) o p) id ≡ true
    at None e h = absurd (false≢true h)
    at (Some future) e h = ap asked_at (get-set_same p.futures id future (asked_as future) e) ∙ many future.kind h

-- ---- what was reached stays so
reached_stays : {on : ℕ} (old : Parts) (s t : List ℕ) (p q : Parts) → Persists s p t q → WasReached old p s on → WasReached old q t on
reached_stays old s t p q k (ended_row {on = on} before now) = ended_row before (k.cancelled on now)
reached_stays old s t p q k (came_row {task = task} before owner seen) = came_row before owner (k.seen task seen)
reached_stays old s t p q k (asked_row {on = on} before among reached now) =
    asked_row before among (reached_stays old s t p q k reached) (k.asked on now)

-- and what was pending then was pending before
reached_from : {on : ℕ} (new : Parts) (seen s t : List ℕ) (p q : Parts) → Persists s p t q → WasReached q new seen on → WasReached p new seen on
reached_from new seen s t p q k (ended_row {on = on} before now) = ended_row (k.pending on before) now
reached_from new seen s t p q k (came_row {on = on} before owner came) =
    came_row (k.pending on before) (sym (k.owners on) ∙ owner) came
reached_from new seen s t p q k (asked_row {on = on} {member = member} before among reached now) =
    asked_row (k.pending on before) (subst (λ (ms : List ℕ). Contains ms member) (k.members on) among)
    (reached_from new seen s t p q k reached) now

goes_stays : (old : Parts) (s t : List ℕ) (p q : Parts) → Persists s p t q → (task : ℕ) → RequestGoesOn old p s task → RequestGoesOn old q t task
goes_stays old s t p q k task (inl m) = inl (k.must_cancel task m)
goes_stays old s t p q k task (inr w) = inr (w.0, w.1, reached_stays old s t p q k w.2)

goes_from : (new : Parts) (seen s t : List ℕ) (p q : Parts) → Persists s p t q → (task : ℕ) → RequestGoesOn q new seen task → RequestGoesOn p new seen task
goes_from new seen s t p q k task (inl m) = inl m
goes_from new seen s t p q k task (inr w) = inr (w.0, sym (k.waiters task) ∙ w.1, reached_from new seen s t p q k w.2)

owns_stays : (s t : List ℕ) (p q : Parts) → Persists s p t q → OwnsFutures p → OwnsFutures q
owns_stays s t p q k owns id task =
    (λ h. k.owned task ∙ (owns id task).0 (sym (k.owners id) ∙ h), λ h. k.owners id ∙ (owns id task).1 (sym (k.owned task) ∙ h))

-- ---- a request
record Told (s : List ℕ) (p : Parts) (r : CancelRequest) : Type 0 where
  persists : Persists s p r.seen r.parts
  visits : (task : ℕ) → has_seen r.seen task ≡ true → (has_seen s task ≡ true) ⊎ RequestGoesOn p r.parts r.seen task

record Reaches (id : ℕ) (s : List ℕ) (p : Parts) (r : CancelRequest) : Type 0 where
  told : Told s p r
  answered : r.answer ≡ true → WasReached p r.parts r.seen id

pending_found : (p : Parts) (id : ℕ) (kind : FutureKind) → IsPendingAs p id kind → is_pending p id ≡ true
pending_found p id kind is = ap is_pending_at is.found ∙ ap is_none is.pending

owner_found : (p : Parts) (id task : ℕ) → IsPendingAs p id (OfTask task) → owner_of p id ≡ Some task
owner_found p id task is = ap owner_at is.found ∙ ap owner_in is.kind_is

asked_told : (s : List ℕ) (p : Parts) (id : ℕ) (answer : Bool) (r : CancelRequest) → Told s p r → Told s p (asked_where answer id r)
asked_told s p id false r t = t
asked_told s p id true r t =
    let k = ask_stays r.seen id r.parts in
    record {
      persists = persists_on s r.seen r.seen p r.parts (mark_asked id r.parts) k t.persists;
      visits = λ task h. go task (t.visits task h);
    }
  where
    go : (task : ℕ) → (has_seen s task ≡ true) ⊎ RequestGoesOn p r.parts r.seen task
        → (has_seen s task ≡ true) ⊎ RequestGoesOn p (mark_asked id r.parts) r.seen task
    go task (inl x) = inl x
    go task (inr x) = inr (goes_stays p r.seen r.seen r.parts (mark_asked id r.parts) (ask_stays r.seen id r.parts) task x)

-- a task is visited, and counts the request
visit_stays : (s : List ℕ) (task : ℕ) (p : Parts) → Persists s p (s ++ task ∷ []) (raise_count task p)
visit_stays s task p =
    let k = raise_stays s task p in
    record {
      seen = λ u h. has_seen-append s (task ∷ []) u ∙ or_left (has_seen s u) (has_seen (task ∷ []) u) h;
      must_cancel = k.must_cancel;
      waiters = k.waiters;
      owned = k.owned;
      owners = k.owners;
      cancelled = k.cancelled;
      asked = k.asked;
      manys = k.manys;
      pending = k.pending;
      members = k.members;
    }

-- the task that is visited must cancel unless what it waits for answers true
module _ (s : List ℕ) (p : Parts) (id task : ℕ) (it : Task) (is : IsPendingAs p id (OfTask task)) (there : slice_get p.tasks task ≡ Some it) (r : CancelRequest)
    (t : Told (s ++ task ∷ []) (raise_count task p) r) where
  whole : Persists s p r.seen r.parts
  whole = persists_on s (s ++ task ∷ []) r.seen p (raise_count task p) r.parts t.persists (visit_stays s task p)

  still : (now : Task) × (slice_get r.parts.tasks task ≡ Some now)
  still = at (slice_get r.parts.tasks task) refl
    where
      at : (o : Option Task) → slice_get r.parts.tasks task ≡ o → (now : Task) × (slice_get r.parts.tasks task ≡ Some now)
      at None e =
          absurd (none-some it.future (sym (ap (option_map (λ (x : Task). x.future)) e) ∙ whole.owned task
          ∙ ap (option_map (λ (x : Task). x.future)) there))
      at (Some now) e = (now, e)

  seen_it : has_seen r.seen task ≡ true
  seen_it = t.persists.seen task (has_seen_last s task)

  from_start : (u : ℕ) → RequestGoesOn (raise_count task p) r.parts r.seen u → RequestGoesOn p r.parts r.seen u
  from_start u = goes_from r.parts r.seen s (s ++ task ∷ []) p (raise_count task p) (visit_stays s task p) u

  -- its own way on
  old : (u : ℕ) → has_seen (s ++ task ∷ []) u ≡ true → (has_seen s u ≡ true) ⊎ (u ≡ task)
  old u h = go (cases_eq u task)
    where
      go : (u ≡ task) ⊎ (u ≡ task → ⊥) → (has_seen s u ≡ true) ⊎ (u ≡ task)
      go (inl e) = inr e
      go (inr n) = inl (sym (has_seen_other s task u n) ∙ h)

  task_told : (answer : Bool) → (answer ≡ true → RequestGoesOn p r.parts r.seen task) → Reaches id s p (must_cancel_unless answer task r)
  task_told true on = record {
    told = record { persists = whole; visits = λ u h. go u (t.visits u h) };
    answered = λ e. came_row (pending_found p id (OfTask task) is) (owner_found p id task is) seen_it;
  }
    where
      go : (u : ℕ) → (has_seen (s ++ task ∷ []) u ≡ true) ⊎ RequestGoesOn (raise_count task p) r.parts r.seen u
          → (has_seen s u ≡ true) ⊎ RequestGoesOn p r.parts r.seen u
      go u (inr x) = inr (from_start u x)
      go u (inl x) = at (old u x)
        where
          at : (has_seen s u ≡ true) ⊎ (u ≡ task) → (has_seen s u ≡ true) ⊎ RequestGoesOn p r.parts r.seen u
          at (inl y) = inl y
          at (inr e) = inr (subst (RequestGoesOn p r.parts r.seen) (sym e) (on refl))
  task_told false on = record {
    told = record {
      persists = persists_on s r.seen r.seen p r.parts (set_must_cancel task r.parts) (must_cancel_stays r.seen task r.parts) whole;
      visits = λ u h. go u (t.visits u h);
    };
    answered = λ e. came_row (pending_found p id (OfTask task) is) (owner_found p id task is) seen_it;
  }
    where
      go : (u : ℕ) → (has_seen (s ++ task ∷ []) u ≡ true) ⊎ RequestGoesOn (raise_count task p) r.parts r.seen u
          → (has_seen s u ≡ true) ⊎ RequestGoesOn p (set_must_cancel task r.parts) r.seen u
      go u (inr x) = inr (goes_stays p r.seen r.seen r.parts (set_must_cancel task r.parts) (must_cancel_stays r.seen task r.parts) u (from_start u x))
      go u (inl x) = at (old u x)
        where
          at : (has_seen s u ≡ true) ⊎ (u ≡ task) → (has_seen s u ≡ true) ⊎ RequestGoesOn p (set_must_cancel task r.parts) r.seen u
          at (inl y) = inl y
          at (inr e) =
              inr (inl (subst (λ x. must_cancel_of (set_must_cancel task r.parts) x ≡ true) (sym e) (sets_must_cancel_of task r.parts still.0 still.1)))

nothing_told : (s : List ℕ) (p : Parts) → (b : Bool) → Told s p (answers b s p)
nothing_told s p b = record { persists = stays s p; visits = λ task h. inl h }

each_told : (s : List ℕ) (p : Parts) (first others : CancelRequest) → Told s p first → Told first.seen first.parts others
    → Told s p (record others { answer = first.answer || others.answer })
each_told s p first others a b = record {
  persists = persists_on s first.seen others.seen p first.parts others.parts b.persists a.persists;
  visits = λ task h. go task (b.visits task h);
}
  where
    back : (task : ℕ) → (has_seen s task ≡ true) ⊎ RequestGoesOn p first.parts first.seen task
        → (has_seen s task ≡ true) ⊎ RequestGoesOn p others.parts others.seen task
    back task (inl x) = inl x
    back task (inr x) = inr (goes_stays p first.seen others.seen first.parts others.parts b.persists task x)

    go : (task : ℕ) → (has_seen first.seen task ≡ true) ⊎ RequestGoesOn first.parts others.parts others.seen task
        → (has_seen s task ≡ true) ⊎ RequestGoesOn p others.parts others.seen task
    go task (inr x) = inr (goes_from others.parts others.seen s first.seen p first.parts a.persists task x)
    go task (inl x) = back task (a.visits task x)

-- ---- one of several futures was reached
record ReachesOne (ids : List ℕ) (p : Parts) (r : CancelRequest) : Type 0 where
  member : ℕ
  among : Contains ids member
  reached : WasReached p r.parts r.seen member

one_of : (id : ℕ) (ids s : List ℕ) (p : Parts) (first others : CancelRequest) → Reaches id s p first → Told first.seen first.parts others
    → (others.answer ≡ true → ReachesOne ids first.parts others) → (first.answer || others.answer) ≡ true
    → ReachesOne (id ∷ ids) p (record others { answer = first.answer || others.answer })
one_of id ids s p first others a b c e = go (or_cases first.answer others.answer e)
  where
    go : (first.answer ≡ true) ⊎ (others.answer ≡ true) → ReachesOne (id ∷ ids) p (record others { answer = first.answer || others.answer })
    go (inl x) = record {
      member = id;
      among = (zero, omega arith, refl);
      reached = reached_stays p first.seen others.seen first.parts others.parts b.persists (a.answered x);
    }
    go (inr x) = let one = c x in record {
      member = one.member;
      among = (suc one.among.0, omega (arith, one.among.1), one.among.2);
      reached = reached_from others.parts others.seen s first.seen p first.parts a.told.persists one.reached;
    }

many_reaches : (id : ℕ) (s : List ℕ) (p : Parts) (members : List ℕ) (asked : Bool) → IsPendingAs p id (Many members asked)
    → (r : CancelRequest) → Told s p r → (r.answer ≡ true → ReachesOne (made_before id members) p r)
    → Reaches id s p (asked_where r.answer id r)
many_reaches id s p members asked is r t one = at r.answer refl
  where
    kept : kind_many_at (slice_get r.parts.futures id) ≡ true
    kept = t.persists.manys id ∙ ap kind_many_at is.found ∙ ap kind_many is.kind_is

    stand : members_of p id ≡ made_before id members
    stand = ap (made_before id) (ap members_at is.found ∙ ap members_in is.kind_is)

    at : (answer : Bool) → r.answer ≡ answer → Reaches id s p (asked_where answer id r)
    at true e =
        let found = one e in
        record {
          told = asked_told s p id true r t;
          answered = λ h. asked_row (pending_found p id (Many members asked) is)
              (subst (λ (ms : List ℕ). Contains ms found.member) (sym stand) found.among)
              (reached_stays p r.seen r.seen r.parts (mark_asked id r.parts) (ask_stays r.seen id r.parts) found.reached)
              (asks_it id r.parts kept);
        }
    at false e = record { told = t; answered = λ h. absurd (false≢true (sym e ∙ h)) }

-- what the task waits for was reached
goes_to : (task : ℕ) (it : Task) (s : List ℕ) (p : Parts) (r : CancelRequest) → slice_get p.tasks task ≡ Some it
    → ((on : ℕ) × (it.waiter ≡ Some on) × WasReached (raise_count task p) r.parts r.seen on) → RequestGoesOn p r.parts r.seen task
goes_to task it s p r e w =
    inr (
      w.0,
      ap (λ (o : Option Task). option_map_or (λ (x : Task). x.waiter) o None) e ∙ w.1,
      reached_from r.parts r.seen s (s ++ task ∷ []) p (raise_count task p) (visit_stays s task p) w.2,
    )

mutual
  reaches : {id : ℕ} {s : List ℕ} {p : Parts} {r : CancelRequest} → OwnsFutures p → Cancels id s p r → Reaches id s p r
  reaches {s = s} {p = p} owns (done_row d) = record { told = nothing_told s p false; answered = λ e. absurd (false≢true e) }
  reaches {id = id} {s = s} {p = p} owns (plain_row is) = record {
    told = record { persists = settle_stays s id p is.future is.found is.pending; visits = λ task h. inl h };
    answered = λ e. ended_row (pending_found p id Plain is) (settle_cancels id p is.future is.found is.pending);
  }
  reaches {id = id} {s = s} {p = p} owns (many_row {members = members} {asked = asked} {request = r} is e) =
      let k = reaches_each owns e in many_reaches id s p members asked is r k.0 k.1
  reaches {id = id} {s = s} {p = p} owns (visited_row {task = t} is n) = record {
    told = nothing_told s p true;
    answered = λ e. came_row (pending_found p id (OfTask t) is) (owner_found p id t is) n;
  }
  reaches {id = id} {s = s} {p = p} owns (task_row {task = t} {it = it} {request = r} is n e w) =
      let k = reaches_waiter (owns_stays s s p (raise_count t p) (raise_stays s t p) owns) w in
      task_told s p id t it is e r k.0 r.answer (λ a. goes_to t it s p r e (k.1 a))
  reaches {id = id} {s = s} {p = p} owns (no_task_row {task = t} is n e) =
      absurd (none-some id (sym (ap (option_map (λ (x : Task). x.future)) e) ∙ (owns id t).0 (owner_found p id t is)))

  reaches_each : {ids s : List ℕ} {p : Parts} {r : CancelRequest} → OwnsFutures p → CancelsEach ids s p r
      → Told s p r × (r.answer ≡ true → ReachesOne ids p r)
  reaches_each {s = s} {p = p} owns none_row = (nothing_told s p false, λ e. absurd (false≢true e))
  reaches_each {s = s} {p = p} owns (each_row {id = id} {ids = ids} {first = first} {others = others} c e) =
      let a = reaches owns c in
      let b = reaches_each (owns_stays s first.seen p first.parts a.told.persists owns) e in
      (each_told s p first others a.told b.0, one_of id ids s p first others a b.0 b.1)

  reaches_waiter : {o : Option ℕ} {s : List ℕ} {p : Parts} {r : CancelRequest} → OwnsFutures p → CancelsWaiter o s p r
      → Told s p r × (r.answer ≡ true → (on : ℕ) × (o ≡ Some on) × WasReached p r.parts r.seen on)
  reaches_waiter {s = s} {p = p} owns waits_not_row = (nothing_told s p false, λ e. absurd (false≢true e))
  reaches_waiter owns (waits_row {on = on} c) = let k = reaches owns c in (k.told, λ e. (on, refl, k.answered e))

-- the whole request
pub cancel_goes_on : (id : ℕ) (p : Parts) → OwnsFutures p → (task : ℕ) → has_seen (cancel id p).seen task ≡ true
    → RequestGoesOn p (cancel id p).parts (cancel id p).seen task
cancel_goes_on id p owns task h = go ((reaches owns (cancel_meets id [] p)).told.visits task h)
  where
    go : (has_seen [] task ≡ true) ⊎ RequestGoesOn p (cancel id p).parts (cancel id p).seen task → RequestGoesOn p (cancel id p).parts (cancel id p).seen task
    go (inl x) = absurd (false≢true x)
    go (inr x) = x

pub cancel_reaches : (id : ℕ) (p : Parts) → OwnsFutures p → (cancel id p).answer ≡ true
    → WasReached p (cancel id p).parts (cancel id p).seen id
cancel_reaches id p owns h = (reaches owns (cancel_meets id [] p)).answered h

pub cancel_keeps_must_cancel : (id : ℕ) (p : Parts) → OwnsFutures p → (task : ℕ) → must_cancel_of p task ≡ true
    → must_cancel_of (cancel id p).parts task ≡ true
cancel_keeps_must_cancel id p owns task m = (reaches owns (cancel_meets id [] p)).told.persists.must_cancel task m
