-- Where a request goes from a task that waits for a future of these, by its kind.
use Rattle.std.proofs.Common.{◌≡◌, ◌<◌, ◌≤◌, ◌+◌, ◌==◌, ◌⊎◌, inl, inr, ℕ, Bool, true, false, cond, not, List, []}
use Rattle.std.proofs.Common.{◌∷◌, ◌++◌, Option, Some, None, is_none, nat_eq, nat_lt}
use Rattle.std.proofs.Common.{filter, slice_get, refl, sym, ap, subst, ◌∙◌, arith}
use Rattle.std.specs.List.{All}
use Rattle.std.specs.Option.{option_map_or}
use Rattle.std.proofs.lemmas.Bool.{cases_eq, eq-eqb, lt-ltb, ne_eqb}
use Rattle.std.proofs.lemmas.List.Elements.{All-head, All-tail}
use Rattle.std.proofs.lemmas.List.Sums.{sum_by-cons}
use Rattle.std.proofs.lemmas.Option.{none-some}
use Rattle.model_value.specs.Value.{Outcome}
use Rattle.model_value.specs.declared.outcome.Outcome.TheVariants.{Cancelled}
use Rattle.model_loop.proofs.FutureCases.{members_at, members_in}
use Rattle.model_loop.specs.Cancel.{CancelRequest, answers, cancel_each, cancel_with, or_must_cancel}
use Rattle.model_loop.specs.Cancelling.{Cancels, CancelsEach, CancelsWaiter, IsPendingAs, each, many, none, plain, task as task_row, waits as waits_row}
use Rattle.model_loop.specs.Futures.{is_pending, is_pending_at, made_before, settle}
use Rattle.model_loop.specs.Numbered.{IsNumbered, occurrences}
use Rattle.model_loop.specs.Parts.{FutureKind, Future, Many, OfTask, Plain, Parts, Task}
use Rattle.model_loop.specs.Tasks.{raise_count, future_of}
use Rattle.law_cancel.proofs.Effects.{change_task-futures, settle-futures}
use Rattle.law_cancel.proofs.Lookups.{get-set_other}
use Rattle.law_cancel.proofs.Meeting.{cancel_meets, only_cancel}
use Rattle.model_gather.specs.Gathered.{distinct}
use Rattle.law_waiters.specs.Reached.{ComesFirst, GoesNoFurther, GoesToEach}
use Rattle.law_waiters.proofs.Shapes.{shape_at, shape_in, shape_of}

-- ---- each once
occurrences-cons : (k x : ℕ) (xs : List ℕ) → occurrences k (x ∷ xs) ≡ cond (nat_eq k x) 1 0 + occurrences k xs
occurrences-cons k x xs = sum_by-cons (λ y. cond (nat_eq k y) 1 0) x xs

filter_fewer : (k : ℕ) (test : ℕ → Bool) (xs : List ℕ) → occurrences k (filter test xs) ≤ occurrences k xs
filter_fewer k test [] = omega arith
filter_fewer k test (x ∷ xs) = at (filter_fewer k test xs) (test x)
  where
    at : occurrences k (filter test xs) ≤ occurrences k xs → (b : Bool)
        → occurrences k (cond b (x ∷ filter test xs) (filter test xs)) ≤ occurrences k (x ∷ xs)
    at c true = let a = occurrences-cons k x (filter test xs) in let b = occurrences-cons k x xs in omega (arith, a, b, c)
    at c false = let b = occurrences-cons k x xs in omega (arith, b, c)

-- a list without one of its numbers
filter_none : (k : ℕ) (xs : List ℕ) → occurrences k (filter (λ other. not (other == k)) xs) ≡ 0
filter_none k [] = refl
filter_none k (x ∷ xs) = at (filter_none k xs) (cases_eq x k)
  where
    at : occurrences k (filter (λ other. not (other == k)) xs) ≡ 0 → (x ≡ k) ⊎ (x ≡ k → ⊥)
        → occurrences k (cond (not (x == k)) (x ∷ filter (λ other. not (other == k)) xs) (filter (λ other. not (other == k)) xs)) ≡ 0
    at none_left (inl e) =
        ap (λ b. occurrences k (cond (not b) (x ∷ filter (λ other. not (other == k)) xs) (filter (λ other. not (other == k)) xs))) (eq-eqb x k e)
        ∙ none_left
    at none_left (inr n) =
        ap (λ b. occurrences k (cond (not b) (x ∷ filter (λ other. not (other == k)) xs) (filter (λ other. not (other == k)) xs))) (ne_eqb x k n)
        ∙ (let a = occurrences-cons k x (filter (λ other. not (other == k)) xs) in
        let c : ◌≡◌ {A = ℕ} (cond (nat_eq k x) 1 0) 0 = ap (λ b. cond b 1 0) (ne_eqb k x (λ e. n (sym e))) in
        omega (arith, a, c, none_left))

distinct_once : (k : ℕ) (xs : List ℕ) → occurrences k (distinct xs) ≤ 1
distinct_once k [] = omega arith
distinct_once k (x ∷ xs) = at (distinct_once k xs) (cases_eq k x)
  where
    at : occurrences k (distinct xs) ≤ 1 → (k ≡ x) ⊎ (k ≡ x → ⊥)
        → occurrences k (x ∷ filter (λ other. not (other == x)) (distinct xs)) ≤ 1
    at few (inl e) =
        let a = occurrences-cons k x (filter (λ other. not (other == x)) (distinct xs)) in
        let b : occurrences k (filter (λ other. not (other == x)) (distinct xs)) ≡ 0 =
        ap (λ n. occurrences n (filter (λ other. not (other == x)) (distinct xs))) e ∙ filter_none x (distinct xs) in
        let c : ◌≡◌ {A = ℕ} (cond (nat_eq k x) 1 0) 1 = ap (λ b. cond b 1 0) (eq-eqb k x e) in
        omega (arith, a, b, c)
    at few (inr n) =
        let a = occurrences-cons k x (filter (λ other. not (other == x)) (distinct xs)) in
        let b = filter_fewer k (λ other. not (other == x)) (distinct xs) in
        let c : ◌≡◌ {A = ℕ} (cond (nat_eq k x) 1 0) 0 = ap (λ b. cond b 1 0) (ne_eqb k x n) in
        omega (arith, a, b, c, few)

pub members_once : (outer k : ℕ) (xs : List ℕ) → occurrences k (made_before outer (distinct xs)) ≤ 1
members_once outer k xs =
    let a = filter_fewer k (λ member. nat_lt member outer) (distinct xs) in
    let b = distinct_once k xs in
    omega (arith, a, b)

-- ---- pending futures by their kinds
pends : (o : Option Outcome) → is_none o ≡ true → o ≡ None
pends None e = refl
pends (Some outcome) e = absurd (cc)

abbrev as_asked : Bool → FutureKind → FutureKind
as_asked asked (Many members before) = Many members asked
as_asked asked Plain = Plain
as_asked asked (OfTask task) = OfTask task

many_in : (kind : FutureKind) (members : List ℕ) → Some (shape_in kind) ≡ Some (Many members false)
    → (asked : Bool) × (kind ≡ Many members asked)
many_in Plain members e = absurd (cc)
many_in (OfTask task) members e = absurd (cc)
many_in (Many others asked) members e = (asked, ap (λ o. option_map_or (as_asked asked) o (Many members asked)) e)

plain_in : (kind : FutureKind) → Some (shape_in kind) ≡ Some Plain → kind ≡ Plain
plain_in Plain e = refl
plain_in (OfTask task) e = absurd (cc)
plain_in (Many others asked) e = absurd (cc)

module _ (p : Parts) (id : ℕ) (pending : is_pending p id ≡ true) where
  many_pending : (members : List ℕ) → shape_of p id ≡ Some (Many members false) → (asked : Bool) × IsPendingAs p id (Many members asked)
  many_pending members shape = at (slice_get p.futures id) refl
    where
      at : (o : Option Future) → slice_get p.futures id ≡ o → (asked : Bool) × IsPendingAs p id (Many members asked)
      at None found = absurd (none-some _ (sym (ap shape_at found) ∙ shape))
      at (Some future) found =
          let kind = many_in future.kind members (sym (ap shape_at found) ∙ shape) in (
            kind.0,
            record { future = future; found = found; pending = pends future.outcome (sym (ap is_pending_at found) ∙ pending); kind_is = kind.1 },
          )

  plain_pending : shape_of p id ≡ Some Plain → IsPendingAs p id Plain
  plain_pending shape = at (slice_get p.futures id) refl
    where
      at : (o : Option Future) → slice_get p.futures id ≡ o → IsPendingAs p id Plain
      at None found = absurd (none-some _ (sym (ap shape_at found) ∙ shape))
      at (Some future) found = record {
        future = future;
        found = found;
        pending = pends future.outcome (sym (ap is_pending_at found) ∙ pending);
        kind_is = plain_in future.kind (sym (ap shape_at found) ∙ shape);
      }

-- ---- members that were made before
all_before : (outer : ℕ) (xs : List ℕ) → All (λ member. member < outer) xs → made_before outer xs ≡ xs
all_before outer [] all = refl
all_before outer (x ∷ xs) all =
    ap (λ b. cond b (x ∷ made_before outer xs) (made_before outer xs)) (lt-ltb x outer (All-head (λ member. member < outer) x xs all))
    ∙ ap (λ ys. x ∷ ys) (all_before outer xs (All-tail (λ member. member < outer) x xs all))

pub members_whole : (p : Parts) (outer : ℕ) (awaited : List ℕ) → shape_of p outer ≡ Some (Many (distinct awaited) false) → IsNumbered p
    → made_before outer (distinct awaited) ≡ distinct awaited
members_whole p outer awaited shape is =
    all_before outer (distinct awaited) (subst (All (λ member. member < outer)) (at (slice_get p.futures outer) refl) (is.members outer))
  where
    at : (o : Option Future) → slice_get p.futures outer ≡ o → members_at (slice_get p.futures outer) ≡ distinct awaited
    at None found = absurd (none-some (Many (distinct awaited) false) (sym (ap shape_at found) ∙ shape))
    at (Some future) found =
        ap members_at found ∙ ap members_in (many_in future.kind (distinct awaited) (sym (ap shape_at found) ∙ shape)).1

-- ---- from a task
each_meets : (ids seen : List ℕ) (p : Parts) → CancelsEach ids seen p (cancel_each cancel_with ids seen p)
each_meets [] seen p = none
each_meets (id ∷ ids) seen p =
    each (cancel_meets id seen p) (each_meets ids (cancel_with id seen p).seen (cancel_with id seen p).parts)

module _ (p : Parts) (task on : ℕ) (seen : List ℕ) (comes : ComesFirst p task on seen) where
  abbrev counted : Parts
  counted = raise_count task p

  there : (it : Task) × ((slice_get p.tasks task ≡ Some it) × (it.waiter ≡ Some on))
  there = at (slice_get p.tasks task) refl
    where
      at : (o : Option Task) → slice_get p.tasks task ≡ o → (it : Task) × ((slice_get p.tasks task ≡ Some it) × (it.waiter ≡ Some on))
      at None found = absurd (none-some on (sym (ap (λ o. option_map_or (λ (it : Task). it.waiter) o None) found) ∙ comes.waits))
      at (Some it) found = (it, (found, sym (ap (λ o. option_map_or (λ (it : Task). it.waiter) o None) found) ∙ comes.waits))

  -- counting changes no future
  futures_same : counted.futures ≡ p.futures
  futures_same = change_task-futures task _ p

  still_pending : (kind : FutureKind) → IsPendingAs p on kind → IsPendingAs counted on kind
  still_pending kind it = record {
    future = it.future;
    found = ap (λ (fs : List Future). slice_get fs on) futures_same ∙ it.found;
    pending = it.pending;
    kind_is = it.kind_is;
  }

  -- what the request does is told by what it does where the task waits
  goes_on : (request : CancelRequest) → Cancels on (seen ++ task ∷ []) counted request
      → cancel_with (future_of p task) seen p ≡ or_must_cancel task request
  goes_on request row =
      only_cancel (task_row comes.lives comes.unseen there.1.0
      (subst (λ w. CancelsWaiter w (seen ++ task ∷ []) counted request) (sym there.1.1) (waits_row row)))

  pub goes_to_each : (awaited : List ℕ) → shape_of p on ≡ Some (Many (distinct awaited) false)
      → GoesToEach (made_before on (distinct awaited)) on task seen p
  goes_to_each awaited shape =
      let it = many_pending p on comes.pending (distinct awaited) shape in
      let each_one = each_meets (made_before on (distinct awaited)) (seen ++ task ∷ []) counted in
      record {
        each = cancel_each cancel_with (made_before on (distinct awaited)) (seen ++ task ∷ []) counted;
        goes = each_one;
        once = λ id. members_once on id awaited;
        is = goes_on _ (many (still_pending (Many (distinct awaited) it.0) it.1) each_one);
      }

  pub goes_no_further : shape_of p on ≡ Some Plain → GoesNoFurther on task seen p
  goes_no_further shape = record {
    is = whole;
    others = λ other n.
        ap (λ (r : CancelRequest). slice_get r.parts.futures other) whole
        ∙ ap (λ (fs : List Future). slice_get fs other) (settle-futures on Cancelled counted it.future it.found it.pending)
        ∙ get-set_other counted.futures on other _ n ∙ ap (λ (fs : List Future). slice_get fs other) futures_same;
  }
    where
      it : IsPendingAs counted on Plain
      it = still_pending Plain (plain_pending p on comes.pending shape)

      whole : cancel_with (future_of p task) seen p ≡ answers true (seen ++ task ∷ []) (settle on Cancelled counted)
      whole = goes_on _ (plain it)
