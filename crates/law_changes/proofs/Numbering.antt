-- What is numbered stays numbered once.
use Rattle.std.proofs.Common.{◌≡◌, ℕ, ◌+◌, ◌≤◌, ◌⊎◌, Bool, true, false, cond, not, ◌==◌, List, [], ◌∷◌, ◌++◌, Option, Some, None, map, filter, nat_eq}
use Rattle.std.proofs.Common.{slice_get, slice_set, refl, ap, ◌∙◌, inl, inr, arith}
use Rattle.std.specs.Option.{option_map_or}
use Rattle.std.proofs.lemmas.Bool.{cases_eq, eq-eqb, ne_eqb}
use Rattle.std.proofs.lemmas.List.{map-append}
use Rattle.std.proofs.lemmas.List.Sums.{sum_by-append, sum_by-cons, sum_by_push}
use Rattle.model_value.specs.Action.{Action}
use Rattle.model_value.specs.Value.{Outcome}
use Rattle.model_loop.specs.Parts.{Handle, Timer, FutureKind, Plain, OfTask, Many, Future, Task, Parts}
use Rattle.model_loop.specs.Handles.{soon, soon_all, later, revoke, cancelled_if}
use Rattle.model_loop.specs.Futures.{with_future, settle, register, mark_asked, asked_kind}
use Rattle.model_loop.specs.Tasks.{change_task}
use Rattle.model_loop.specs.Numbered.{stamps_of, tags_of, occurrences, AreGivenOnce, IsNumbered}
use Rattle.model_loop.proofs.FutureCases.{members_at, members_in, registered, registered_on, settled, settled_as}
use Rattle.law_cancel.proofs.Lookups.{get-set_kept}
use Rattle.law_cancel.proofs.Effects.{done_as, asked_as}

-- ---- lists of numbers
pub occurrences-append : (k : ℕ) (xs ys : List ℕ) → occurrences k (xs ++ ys) ≡ occurrences k xs + occurrences k ys
occurrences-append k xs ys = sum_by-append (λ x. cond (nat_eq k x) 1 0) xs ys

abbrev pub one_at : ℕ → ℕ → ℕ
one_at k n = cond (nat_eq k n) 1 0

-- the next number is given
pub given_more : (xs ys : List ℕ) (n : ℕ) → ((k : ℕ) → occurrences k ys ≡ occurrences k xs + one_at k n) → AreGivenOnce xs n → AreGivenOnce ys (n + 1)
given_more xs ys n more given = record {
  once = λ k. rw more (once_at k (cases_eq k n));
  below = λ k h. rw (more, ne_eqb k n (omega arith), given.below k (omega arith)) refl;
}
  where
    once_at : (k : ℕ) → (k ≡ n) ⊎ (k ≡ n → ⊥) → occurrences k xs + one_at k n ≤ 1
    once_at k (inl e) =
        let z : occurrences k xs ≡ 0 = given.below k (omega arith) in rw (eq-eqb k n e, z) (omega arith)
    once_at k (inr ne) = let h = given.once k in rw (ne_eqb k n ne) (omega arith)

-- some numbers are taken out
pub given_fewer : (xs ys : List ℕ) (n : ℕ) → ((k : ℕ) → occurrences k ys ≤ occurrences k xs) → AreGivenOnce xs n → AreGivenOnce ys n
given_fewer xs ys n fewer given = record {
  once = λ k. let f = fewer k in let h = given.once k in omega arith;
  below = λ k h. let f = fewer k in let g = given.below k h in omega arith;
}

pub occurrences-pushed : {A : Type 0} (k : ℕ) (f : A → ℕ) (xs : List A) (x : A) → occurrences k (map f (xs ++ x ∷ []))
    ≡ occurrences k (map f xs) + one_at k (f x)
occurrences-pushed k f xs x =
    ap (occurrences k) (map-append f xs (x ∷ [])) ∙ sum_by_push (λ y. cond (nat_eq k y) 1 0) (map f xs) (f x)

abbrev pub stamp_of : Handle → ℕ
stamp_of handle = handle.stamp

abbrev pub tag_of : Handle → ℕ
tag_of handle = handle.tag

abbrev pub timer_tag : Timer → ℕ
timer_tag timer = timer.tag

-- how often a tag stands among handles and timers
pub tagged : (k : ℕ) (p : Parts) → occurrences k (tags_of p) ≡ occurrences k (map tag_of p.pending) + occurrences k (map timer_tag p.timers)
tagged k p = occurrences-append k (map tag_of p.pending) (map timer_tag p.timers)

-- ---- `soon`
pub soon_numbers : (action : Action) (p : Parts) → IsNumbered p → IsNumbered (soon action p)
soon_numbers action p is = record {
  stamps = given_more (stamps_of p) (stamps_of (soon action p)) p.next_stamp (λ k. occurrences-pushed k stamp_of p.pending new) is.stamps;
  tags = given_more (tags_of p) (tags_of (soon action p)) p.next_tag tags_more is.tags;
  members = is.members;
}
  where
    new : Handle
    new = record { stamp = p.next_stamp; tag = p.next_tag; action = action; dead = false }

    tags_more : (k : ℕ) → occurrences k (tags_of (soon action p)) ≡ occurrences k (tags_of p) + one_at k p.next_tag
    tags_more k =
        let a = tagged k (soon action p) in
        let b = tagged k p in
        let c = occurrences-pushed k tag_of p.pending new in
        omega arith

pub soon_all_numbers : (actions : List Action) (p : Parts) → IsNumbered p → IsNumbered (soon_all actions p)
soon_all_numbers [] p is = is
soon_all_numbers (action ∷ actions) p is = soon_all_numbers actions (soon action p) (soon_numbers action p is)

-- ---- timers
pub later_numbers : (when : ℕ) (action : Action) (p : Parts) → IsNumbered p → IsNumbered (later when action p)
later_numbers when action p is = record {
  stamps = is.stamps;
  tags = given_more (tags_of p) (tags_of (later when action p)) p.next_tag tags_more is.tags;
  members = is.members;
}
  where
    new : Timer
    new = record { when = when; tag = p.next_tag; action = action }

    tags_more : (k : ℕ) → occurrences k (tags_of (later when action p)) ≡ occurrences k (tags_of p) + one_at k p.next_tag
    tags_more k =
        let a = tagged k (later when action p) in
        let b = tagged k p in
        let c = occurrences-pushed k timer_tag p.timers new in
        omega arith

-- a revoked handle keeps its stamp and its tag
cancelled-stamps : (tag : ℕ) (handles : List Handle) → map stamp_of (map (cancelled_if tag) handles) ≡ map stamp_of handles
cancelled-stamps tag [] = refl
cancelled-stamps tag (h ∷ hs) = rw (same (h.tag == tag), cancelled-stamps tag hs) refl
  where
    same : (b : Bool) → stamp_of (cond b (record h { dead = true }) h) ≡ stamp_of h
    same true = refl
    same false = refl

cancelled-tags : (tag : ℕ) (handles : List Handle) → map tag_of (map (cancelled_if tag) handles) ≡ map tag_of handles
cancelled-tags tag [] = refl
cancelled-tags tag (h ∷ hs) = rw (same (h.tag == tag), cancelled-tags tag hs) refl
  where
    same : (b : Bool) → tag_of (cond b (record h { dead = true }) h) ≡ tag_of h
    same true = refl
    same false = refl

-- a filter takes numbers out
occurrences-filter : {A : Type 0} (k : ℕ) (f : A → ℕ) (test : A → Bool) (xs : List A) → occurrences k (map f (filter test xs)) ≤ occurrences k (map f xs)
occurrences-filter k f test [] = omega arith
occurrences-filter {A} k f test (x ∷ xs) = go (test x) (occurrences-filter k f test xs)
  where
    go : (b : Bool) → occurrences k (map f (filter test xs)) ≤ occurrences k (map f xs)
        → occurrences k (map f (cond b (x ∷ filter test xs) (filter test xs))) ≤ occurrences k (map f (x ∷ xs))
    go true h =
        let a = sum_by-cons (λ y. cond (nat_eq k y) 1 0) (f x) (map f (filter test xs)) in
        let b = sum_by-cons (λ y. cond (nat_eq k y) 1 0) (f x) (map f xs) in
        omega arith
    go false h = let b = sum_by-cons (λ y. cond (nat_eq k y) 1 0) (f x) (map f xs) in omega arith

pub revoke_numbers : (tag : ℕ) (p : Parts) → IsNumbered p → IsNumbered (revoke tag p)
revoke_numbers tag p is = record {
  stamps = rw cancelled-stamps is.stamps;
  tags = given_fewer (tags_of p) (tags_of (revoke tag p)) p.next_tag tags_fewer is.tags;
  members = is.members;
}
  where
    tags_fewer : (k : ℕ) → occurrences k (tags_of (revoke tag p)) ≤ occurrences k (tags_of p)
    tags_fewer k =
        let a = tagged k (revoke tag p) in
        let b = tagged k p in
        let c : occurrences k (map tag_of (map (cancelled_if tag) p.pending)) ≡ occurrences k (map tag_of p.pending) =
        ap (occurrences k) (cancelled-tags tag p.pending) in
        let d = occurrences-filter k timer_tag (λ (timer : Timer). not (timer.tag == tag)) p.timers in
        omega arith

-- ---- futures
with_future_numbers : (id : ℕ) (old new : Future) (p : Parts) → slice_get p.futures id ≡ Some old → members_in new.kind ≡ members_in old.kind → IsNumbered p
    → IsNumbered (with_future id new p)
with_future_numbers id old new p e same is = record {
  stamps = is.stamps;
  tags = is.tags;
  members = λ j. rw (get-set_kept members_at p.futures id j old new e same) (is.members j);
}

pub settle_numbers : (id : ℕ) (outcome : Outcome) (p : Parts) → IsNumbered p → IsNumbered (settle id outcome p)
settle_numbers id outcome p is = at (slice_get p.futures id) refl
  where
    until : (future : Future) → slice_get p.futures id ≡ Some future → (o : Option Outcome) → IsNumbered (settled_as o id future outcome p)
    until future e (Some done) = is
    until future e None =
        soon_all_numbers future.callbacks (with_future id (done_as outcome future) p)
        (with_future_numbers id future (done_as outcome future) p e refl is)

    at : (o : Option Future) → slice_get p.futures id ≡ o → IsNumbered (settled o id outcome p)
    at None e = is
    at (Some future) e = until future e future.outcome

pub register_numbers : (id : ℕ) (action : Action) (p : Parts) → IsNumbered p → IsNumbered (register id action p)
register_numbers id action p is = at (slice_get p.futures id) refl
  where
    until : (future : Future) → slice_get p.futures id ≡ Some future → (o : Option Outcome) → IsNumbered (registered_on o id future action p)
    until future e (Some done) = soon_numbers action p is
    until future e None = with_future_numbers id future (record future { callbacks = future.callbacks ++ action ∷ [] }) p e refl is

    at : (o : Option Future) → slice_get p.futures id ≡ o → IsNumbered (registered o id action p)
    at None e = is
    at (Some future) e = until future e future.outcome

pub mark_asked_numbers : (id : ℕ) (p : Parts) → IsNumbered p → IsNumbered (mark_asked id p)
mark_asked_numbers id p is = at (slice_get p.futures id) refl
  where
    same : (k : FutureKind) → members_in (asked_kind k) ≡ members_in k
    same Plain = refl
    same (OfTask task) = refl
    same (Many members asked) = refl

    at : (o : Option Future) → slice_get p.futures id ≡ o → IsNumbered (option_map_or (λ (f : Future). with_future id (asked_as f) p) o p)
    at None e = is
    at (Some future) e = with_future_numbers id future (asked_as future) p e (same future.kind) is

pub change_task_numbers : (id : ℕ) (change : Task → Task) (p : Parts) → IsNumbered p → IsNumbered (change_task id change p)
change_task_numbers id change p is = at (slice_get p.tasks id)
  where
    at : (o : Option Task) → IsNumbered (option_map_or (λ (t : Task). record p { tasks = slice_set p.tasks id (change t) }) o p)
    at None = is
    at (Some task) = record { stamps = is.stamps; tags = is.tags; members = is.members }

-- a handle is taken out
pub taken_numbers : (handle : Handle) (rest : List Handle) (p : Parts) → p.pending ≡ handle ∷ rest → IsNumbered p
    → IsNumbered (record p { pending = rest })
taken_numbers handle rest p first is = record {
  stamps = given_fewer (stamps_of p) (map stamp_of rest) p.next_stamp stamps is.stamps;
  tags = given_fewer (tags_of p) (tags_of (record p { pending = rest })) p.next_tag tags is.tags;
  members = is.members;
}
  where
    stamps : (k : ℕ) → occurrences k (map stamp_of rest) ≤ occurrences k (stamps_of p)
    stamps k =
        let a : occurrences k (stamps_of p) ≡ one_at k handle.stamp + occurrences k (map stamp_of rest) =
        ap (λ l. occurrences k (map stamp_of l)) first ∙ sum_by-cons (λ y. cond (nat_eq k y) 1 0) handle.stamp (map stamp_of rest) in
        omega (arith, a)

    tags : (k : ℕ) → occurrences k (tags_of (record p { pending = rest })) ≤ occurrences k (tags_of p)
    tags k =
        let a = tagged k p in
        let b = tagged k (record p { pending = rest }) in
        let c : occurrences k (map tag_of p.pending) ≡ one_at k handle.tag + occurrences k (map tag_of rest) =
        ap (λ l. occurrences k (map tag_of l)) first ∙ sum_by-cons (λ y. cond (nat_eq k y) 1 0) handle.tag (map tag_of rest) in
        omega (arith, a, b, c)
