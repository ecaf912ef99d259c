-- Timers that fall due, and what is made new, keep what is numbered.
use Rattle.std.proofs.Common.{◌≡◌, ℕ, ◌+◌, ◌<◌, ◌≤◌, ◌⊎◌, Bool, true, false, cond, List, [], ◌∷◌, ◌++◌, None, map, filter, length, nat_eq, nat_le, nat_lt}
use Rattle.std.proofs.Common.{slice_get, refl, inl, inr, arith}
use Rattle.std.specs.List.{All}
use Rattle.std.proofs.lemmas.Bool.{cases_lt, lt-ltb, le-ltb, le-leb, lt-leb, cases_eq}
use Rattle.std.proofs.lemmas.List.Elements.{All-nil}
use Rattle.std.proofs.lemmas.List.Sums.{sum_by-cons}
use Rattle.model_loop.specs.Parts.{Handle, Timer, FutureKind, Plain, OfTask, Many, Future, Parts}
use Rattle.model_loop.specs.Handles.{placed, by_deadline, fall_due, due}
use Rattle.model_loop.specs.Futures.{next_future, make_future, new_plain, new_many}
use Rattle.model_loop.specs.Tasks.{next_task, spawn}
use Rattle.model_loop.specs.Numbered.{stamps_of, tags_of, occurrences, AreGivenOnce, members_of, IsNumbered}
use Rattle.model_loop.proofs.FutureCases.{members_at, members_in}
use Rattle.law_cancel.proofs.Lookups.{get-push_last, get-push_other}
use Rattle.law_changes.proofs.Numbering.{given_more, occurrences-pushed, stamp_of, tag_of, timer_tag, tagged, one_at, soon_numbers}

occurrences-cons : (k x : ℕ) (xs : List ℕ) → occurrences k (x ∷ xs) ≡ one_at k x + occurrences k xs
occurrences-cons k x xs = sum_by-cons (λ y. cond (nat_eq k y) 1 0) x xs

-- ---- the order of deadlines
placed-tags : (k : ℕ) (timer : Timer) (timers : List Timer) → occurrences k (map timer_tag (placed timer timers))
    ≡ one_at k timer.tag + occurrences k (map timer_tag timers)
placed-tags k timer [] = occurrences-cons k timer.tag []
placed-tags k timer (other ∷ others) =
    go (nat_lt other.when timer.when) (placed-tags k timer others)
  where
    go : (b : Bool) → occurrences k (map timer_tag (placed timer others)) ≡ one_at k timer.tag + occurrences k (map timer_tag others)
        → occurrences k (map timer_tag (cond b (other ∷ placed timer others) (timer ∷ other ∷ others)))
        ≡ one_at k timer.tag + occurrences k (map timer_tag (other ∷ others))
    go true ih =
        let a = occurrences-cons k other.tag (map timer_tag (placed timer others)) in
        let b = occurrences-cons k other.tag (map timer_tag others) in
        omega arith
    go false ih = occurrences-cons k timer.tag (map timer_tag (other ∷ others))

by_deadline-tags : (k : ℕ) (timers : List Timer) → occurrences k (map timer_tag (by_deadline timers)) ≡ occurrences k (map timer_tag timers)
by_deadline-tags k [] = refl
by_deadline-tags k (timer ∷ timers) =
    let a = placed-tags k timer (by_deadline timers) in
    let b = by_deadline-tags k timers in
    let c = occurrences-cons k timer.tag (map timer_tag timers) in
    omega arith

-- each timer is due or isn't
abbrev pub early : ℕ → List Timer → List Timer
early time = filter (λ (timer : Timer). nat_le timer.when time)

abbrev pub late : ℕ → List Timer → List Timer
late time = filter (λ (timer : Timer). nat_lt time timer.when)

split-tags : (k time : ℕ) (timers : List Timer) → occurrences k (map timer_tag (early time timers)) + occurrences k (map timer_tag (late time timers))
    ≡ occurrences k (map timer_tag timers)
split-tags k time [] = refl
split-tags k time (timer ∷ timers) = go (cases_lt time timer.when) (split-tags k time timers)
  where
    go : (time < timer.when) ⊎ (timer.when ≤ time)
        → occurrences k (map timer_tag (early time timers)) + occurrences k (map timer_tag (late time timers)) ≡ occurrences k (map timer_tag timers)
        → occurrences k (map timer_tag (early time (timer ∷ timers))) + occurrences k (map timer_tag (late time (timer ∷ timers)))
        ≡ occurrences k (map timer_tag (timer ∷ timers))
    go (inl h) ih =
        let whole = occurrences-cons k timer.tag (map timer_tag timers) in
        let part = occurrences-cons k timer.tag (map timer_tag (late time timers)) in
        rw (lt-leb timer.when time h, lt-ltb time timer.when h) (omega arith)
    go (inr h) ih =
        let whole = occurrences-cons k timer.tag (map timer_tag timers) in
        let part = occurrences-cons k timer.tag (map timer_tag (early time timers)) in
        rw (le-leb timer.when time h, le-ltb time timer.when h) (omega arith)

-- ---- a timer's handle is appended under its own tag
abbrev pub fallen : Timer → Parts → Parts
fallen timer p =
    record p {
      pending = p.pending ++ record { stamp = p.next_stamp; tag = timer.tag; action = timer.action; dead = false } ∷ [];
      next_stamp = p.next_stamp + 1;
    }

fall_due-stamps : (timers : List Timer) (p : Parts) → AreGivenOnce (stamps_of p) p.next_stamp
    → AreGivenOnce (stamps_of (fall_due timers p)) (fall_due timers p).next_stamp
fall_due-stamps [] p is = is
fall_due-stamps (timer ∷ timers) p is =
    fall_due-stamps timers (fallen timer p)
    (given_more (stamps_of p) (stamps_of (fallen timer p)) p.next_stamp (λ k. occurrences-pushed k stamp_of p.pending _) is)

fall_due-tags : (k : ℕ) (timers : List Timer) (p : Parts) → occurrences k (tags_of (fall_due timers p))
    ≡ occurrences k (tags_of p) + occurrences k (map timer_tag timers)
fall_due-tags k [] p = omega arith
fall_due-tags k (timer ∷ timers) p =
    let new : Handle = record { stamp = p.next_stamp; tag = timer.tag; action = timer.action; dead = false } in
    let ih = fall_due-tags k timers (fallen timer p) in
    let a = tagged k (fallen timer p) in
    let b = tagged k p in
    let c = occurrences-pushed k tag_of p.pending new in
    let d = occurrences-cons k timer.tag (map timer_tag timers) in
    omega arith

pub fall_due-next : (timers : List Timer) (p : Parts) → (fall_due timers p).next_tag ≡ p.next_tag
fall_due-next [] p = refl
fall_due-next (timer ∷ timers) p = fall_due-next timers (fallen timer p)

pub fall_due-futures : (timers : List Timer) (p : Parts) → (fall_due timers p).futures ≡ p.futures
fall_due-futures [] p = refl
fall_due-futures (timer ∷ timers) p = fall_due-futures timers (fallen timer p)

pub due_numbers : (p : Parts) → IsNumbered p → IsNumbered (due p)
due_numbers p is = record {
  stamps = fall_due-stamps (by_deadline (early p.time p.timers)) rest is.stamps;
  tags = record {
    once = λ k. rw same_tags (is.tags.once k);
    below = λ k h. rw same_tags (is.tags.below k (rw (fall_due-next (by_deadline (early p.time p.timers)) rest) at h));
  };
  members = λ id. rw (fall_due-futures (by_deadline (early p.time p.timers)) rest, members_of) (is.members id);
}
  where
    rest : Parts
    rest = record p { timers = late p.time p.timers }

    same_tags : (k : ℕ) → occurrences k (tags_of (due p)) ≡ occurrences k (tags_of p)
    same_tags k =
        let a = fall_due-tags k (by_deadline (early p.time p.timers)) rest in
        let b = by_deadline-tags k (early p.time p.timers) in
        let c = split-tags k p.time p.timers in
        let d = tagged k rest in
        let e = tagged k p in
        omega arith

-- ---- what is made new
abbrev fresh : FutureKind → Future
fresh kind = record { kind = kind; outcome = None; callbacks = [] }

make_future_numbers : (kind : FutureKind) (p : Parts) → All (λ member. member < next_future p) (members_in kind) → IsNumbered p
    → IsNumbered (make_future kind p)
make_future_numbers kind p new is = record {
  stamps = is.stamps;
  tags = is.tags;
  members = λ id. at id (cases_eq id (length p.futures));
}
  where
    at : (id : ℕ) → (id ≡ length p.futures) ⊎ (id ≡ length p.futures → ⊥)
        → All (λ member. member < id) (members_at (slice_get (p.futures ++ fresh kind ∷ []) id))
    at id (inl e) = rw (e, get-push_last p.futures (fresh kind)) new
    at id (inr n) = rw (get-push_other p.futures (fresh kind) id n) (is.members id)

pub new_plain_numbers : (p : Parts) → IsNumbered p → IsNumbered (new_plain p)
new_plain_numbers p is = make_future_numbers Plain p (All-nil (λ member. member < next_future p)) is

pub new_many_numbers : (members : List ℕ) (p : Parts) → All (λ member. member < next_future p) members → IsNumbered p → IsNumbered (new_many members p)
new_many_numbers members p new is = make_future_numbers (Many members false) p new is

pub spawn_numbers : (p : Parts) → IsNumbered p → IsNumbered (spawn p)
spawn_numbers p is =
    let made = make_future_numbers (OfTask (next_task p)) p (All-nil (λ member. member < next_future p)) is in
    soon_numbers _ _ (record { stamps = made.stamps; tags = made.tags; members = made.members })
