-- What a request counts and which futures it ends.
use Rattle.std.proofs.Common.{◌≡◌, ℕ, ◌+◌, ◌≤◌, ◌⊎◌, Bool, true, false, cond, List, [], ◌∷◌, ◌++◌, Option, Some, None, nat_eq, slice_get, slice_set, refl, ap}
use Rattle.std.proofs.Common.{sym, ◌∙◌, inl, inr, arith}
use Rattle.std.specs.Option.{option_map_or}
use Rattle.std.proofs.lemmas.Bool.{cases_eq, eq-eqb, ne_eqb, or_parts, false≢true}
use Rattle.std.proofs.lemmas.List.Sums.{sum_by_push, sum_by-cons}
use Rattle.model_value.specs.declared.outcome.Outcome.TheVariants.{Cancelled}
use Rattle.model_value.specs.Value.{Outcome}
use Rattle.model_loop.specs.Parts.{Future, Task, Parts}
use Rattle.model_loop.specs.Futures.{outcome_at, future_outcome, is_pending_at, is_pending}
use Rattle.model_loop.specs.Tasks.{cancelling, change_task, one_more, raise_count}
use Rattle.model_loop.specs.Numbered.{occurrences}
use Rattle.model_loop.specs.Cancel.{has_seen}
use Rattle.law_cancel.proofs.Lookups.{get-set_same, get-set_other, get-set_kept}
use Rattle.law_cancel.proofs.Effects.{settle-futures, settle-tasks, done_as, mark_asked-futures, mark_asked-tasks, asked_as, change_task-there}
use Rattle.law_cancel.proofs.Effects.{change_task-futures}
use Rattle.law_cancel.proofs.Seen.{has_seen-append, has_seen_last, has_seen_other}
use Rattle.law_cancel.proofs.Trace.{Goes, begins, settles, asks, raises, sets_must_cancel, goes-seen}

-- what a function makes of each task is the same after a change that it doesn't see
pub change_task-kept : {Y : Type 0} (f : Option Task → Y) (id : ℕ) (change : Task → Task) (p : Parts) → ((task : Task) → f (Some (change task)) ≡ f (Some task))
    → (j : ℕ) → f (slice_get (change_task id change p).tasks j) ≡ f (slice_get p.tasks j)
change_task-kept f id change p same j = at (slice_get p.tasks id) refl
  where
    at : (o : Option Task) → slice_get p.tasks id ≡ o
        → f (slice_get (option_map_or (λ (t : Task). record p { tasks = slice_set p.tasks id (change t) }) o p).tasks j) ≡ f (slice_get p.tasks j)
    at None e = refl
    at (Some task) e = get-set_kept f p.tasks id j task (change task) e (same task)

abbrev count_at : Option Task → ℕ
count_at o = option_map_or (λ (task : Task). task.cancels) o 0

-- a count after a request, by whether the task was visited before it and whether it was after it
abbrev counted : (before after : Bool) → ℕ → ℕ
counted before after count = cond after (cond before count (one_more count)) count

counted_same : (b : Bool) (count : ℕ) → counted b b count ≡ count
counted_same true count = refl
counted_same false count = refl

pub goes-counts : {s : List ℕ} {p : Parts} {t : List ℕ} {q : Parts} → Goes s p t q → (u : ℕ) → cancelling q u
    ≡ counted (has_seen s u) (has_seen t u) (cancelling p u)
goes-counts {s} {p} begins u = sym (counted_same (has_seen s u) (cancelling p u))
goes-counts (settles {q = q} g id future e o k) u =
    ap (λ (ts : List Task). count_at (slice_get ts u)) (settle-tasks id Cancelled q) ∙ goes-counts g u
goes-counts (asks {q = q} g id future members asked e o k) u =
    ap (λ (ts : List Task). count_at (slice_get ts u)) (mark_asked-tasks id q) ∙ goes-counts g u
goes-counts {s} {p} (raises {t = t} {q = q} g id task n e) u = go (cases_eq u id) (goes-counts g u)
  where
    there : (raise_count id q).tasks ≡ slice_set q.tasks id (record task { cancels = one_more task.cancels })
    there = ap (λ (r : Parts). r.tasks) (change_task-there id _ q task e)

    fresh : has_seen s id ≡ false
    fresh =
        let h = goes-seen g in
        (or_parts (has_seen s id) (has_seen h.0 id) (sym (has_seen-append s h.0 id) ∙ rw (← h.1) n)).0

    go : (u ≡ id) ⊎ (u ≡ id → ⊥) → cancelling q u ≡ counted (has_seen s u) (has_seen t u) (cancelling p u) → cancelling (raise_count id q) u
        ≡ counted (has_seen s u) (has_seen (t ++ id ∷ []) u) (cancelling p u)
    go (inl same) ih =
        let before : cancelling q id ≡ cancelling p id = rw same at ih ∙ ap (λ b. counted (has_seen s id) b (cancelling p id)) n in
        let now : cancelling (raise_count id q) id ≡ one_more (cancelling q id) =
        ap (λ (ts : List Task). count_at (slice_get ts id)) there
        ∙ ap count_at (get-set_same q.tasks id task (record task { cancels = one_more task.cancels }) e) ∙ ap one_more (sym (ap count_at e)) in
        rw (same, has_seen_last, fresh) (now ∙ ap one_more before)
    go (inr other) ih =
        let now : cancelling (raise_count id q) u ≡ cancelling q u =
        ap (λ (ts : List Task). count_at (slice_get ts u)) there
        ∙ ap count_at (get-set_other q.tasks id u (record task { cancels = one_more task.cancels }) (λ x. other (sym x))) in
        rw (has_seen_other t id u other) (now ∙ ih)
goes-counts (sets_must_cancel {q = q} g id) u =
    change_task-kept count_at id _ q (λ task. refl) u ∙ goes-counts g u

-- ---- each task is visited once
pub occurrences-unseen : (s : List ℕ) (u : ℕ) → has_seen s u ≡ false → occurrences u s ≡ 0
occurrences-unseen [] u h = refl
occurrences-unseen (x ∷ s) u h =
    let parts = or_parts (nat_eq u x) (has_seen s u) h in
    sum_by-cons (λ y. cond (nat_eq u y) 1 0) x s ∙ rw (parts.0, occurrences-unseen s u parts.1) refl

pub goes-once : {s : List ℕ} {p : Parts} {t : List ℕ} {q : Parts} → Goes s p t q → ((u : ℕ) → occurrences u s ≤ 1) → (u : ℕ) → occurrences u t ≤ 1
goes-once begins h u = h u
goes-once (settles g id future e o k) h u = goes-once g h u
goes-once (asks g id future members asked e o k) h u = goes-once g h u
goes-once (raises {t = t} g id task n e) h u = rw push (go (cases_eq u id) (goes-once g h u))
  where
    push : occurrences u (t ++ id ∷ []) ≡ occurrences u t + cond (nat_eq u id) 1 0
    push = sum_by_push (λ y. cond (nat_eq u y) 1 0) t id

    go : (u ≡ id) ⊎ (u ≡ id → ⊥) → occurrences u t ≤ 1 → occurrences u t + cond (nat_eq u id) 1 0 ≤ 1
    go (inl same) ih =
        let z : occurrences u t ≡ 0 = rw same (occurrences-unseen t id n) in
        rw (eq-eqb u id same, z) (omega arith)
    go (inr other) ih = rw (ne_eqb u id other) (omega arith)
goes-once (sets_must_cancel g id) h u = goes-once g h u

-- ---- a future that is done stays
pub goes-done : {s : List ℕ} {p : Parts} {t : List ℕ} {q : Parts} → Goes s p t q → (j : ℕ) → is_pending p j ≡ false → slice_get q.futures j
    ≡ slice_get p.futures j
goes-done begins j d = refl
goes-done {s} {p} (settles {q = q} g id future e o k) j d =
    rw (settle-futures id Cancelled q future e o) (go (cases_eq id j) (goes-done g j d))
  where
    go : (id ≡ j) ⊎ (id ≡ j → ⊥) → slice_get q.futures j ≡ slice_get p.futures j → slice_get (slice_set q.futures id (done_as Cancelled future)) j
        ≡ slice_get p.futures j
    go (inl same) ih =
        let live : is_pending q j ≡ true = rw (← same, e, o) refl in
        absurd (false≢true (sym d ∙ sym (ap is_pending_at ih) ∙ live))
    go (inr other) ih = get-set_other q.futures id j (done_as Cancelled future) other ∙ ih
goes-done {s} {p} (asks {q = q} g id future members asked e o k) j d =
    rw (mark_asked-futures id q future e) (go (cases_eq id j) (goes-done g j d))
  where
    go : (id ≡ j) ⊎ (id ≡ j → ⊥) → slice_get q.futures j ≡ slice_get p.futures j → slice_get (slice_set q.futures id (asked_as future)) j
        ≡ slice_get p.futures j
    go (inl same) ih =
        let live : is_pending q j ≡ true = rw (← same, e, o) refl in
        absurd (false≢true (sym d ∙ sym (ap is_pending_at ih) ∙ live))
    go (inr other) ih = get-set_other q.futures id j (asked_as future) other ∙ ih
goes-done (raises {q = q} g id task n e) j d =
    ap (λ (fs : List Future). slice_get fs j) (change_task-futures id _ q) ∙ goes-done g j d
goes-done (sets_must_cancel {q = q} g id) j d = ap (λ (fs : List Future). slice_get fs j) (change_task-futures id _ q) ∙ goes-done g j d

-- ---- no future ends but by being cancelled
abbrev pub OnlyCancelled : Option Outcome → Option Outcome → Type 0
OnlyCancelled before after = (after ≡ before) ⊎ ((before ≡ None) × (after ≡ Some Cancelled))

pub goes-outcomes : {s : List ℕ} {p : Parts} {t : List ℕ} {q : Parts} → Goes s p t q → (j : ℕ) → OnlyCancelled (future_outcome p j) (future_outcome q j)
goes-outcomes begins j = inl refl
goes-outcomes {s} {p} (settles {q = q} g id future e o k) j =
    rw (settle-futures id Cancelled q future e o) (go (cases_eq id j) (goes-outcomes g j))
  where
    go : (id ≡ j) ⊎ (id ≡ j → ⊥) → OnlyCancelled (future_outcome p j) (future_outcome q j)
        → OnlyCancelled (future_outcome p j) (outcome_at (slice_get (slice_set q.futures id (done_as Cancelled future)) j))
    go (inl same) ih =
        let live : future_outcome q j ≡ None = rw (← same, e) o in
        let now : outcome_at (slice_get (slice_set q.futures id (done_as Cancelled future)) j) ≡ Some Cancelled =
        rw (← same) (ap outcome_at (get-set_same q.futures id future (done_as Cancelled future) e)) in
        inr (was ih live, now)
      where
        was : OnlyCancelled (future_outcome p j) (future_outcome q j) → future_outcome q j ≡ None → future_outcome p j ≡ None
        was (inl x) live = sym x ∙ live
        was (inr x) live = x.0
    go (inr other) ih = rw (get-set_other q.futures id j (done_as Cancelled future) other) ih
goes-outcomes {s} {p} (asks {q = q} g id future members asked e o k) j =
    rw (mark_asked-futures id q future e, get-set_kept outcome_at q.futures id j future (asked_as future) e refl) (goes-outcomes g j)
goes-outcomes (raises {q = q} g id task n e) j = rw (change_task-futures id _ q) (goes-outcomes g j)
goes-outcomes (sets_must_cancel {q = q} g id) j = rw (change_task-futures id _ q) (goes-outcomes g j)
