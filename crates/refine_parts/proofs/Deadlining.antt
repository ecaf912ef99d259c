-- Timers by deadline, and those that the machine has in order of scheduling.
use Rattle.std.proofs.Common.{◌≡◌, ℕ, ◌+◌, ◌<◌, ◌≤◌, ◌⊎◌, Bool, true, false, cond, List, [], ◌∷◌, ◌++◌, Some, map, filter, min, refl, ap, sym, subst, ◌∙◌, inl}
use Rattle.std.proofs.Common.{inr, arith}
use Rattle.std.specs.Prelude.{nat_lt}
use Rattle.std.specs.List.{AllByRecursion as Each}
use Rattle.std.proofs.lemmas.Bool.{cases_lt, lt-ltb, le-ltb}
use Rattle.std.proofs.lemmas.Option.{same_Some}
use Rattle.model_loop.specs.Parts.{Timer}
use Rattle.model_loop.specs.Handles.{placed, by_deadline}
use Rattle.model_loop.specs.Numbered.{occurrences}
use Rattle.law_changes.proofs.Numbering.{one_at, timer_tag}
use Rattle.aio_timer.specs.Schedule.{placed_after, first_when}
use Rattle.model_machine.specs.Turn.{least}
use Rattle.refine_parts.proofs.Lists.{all-filter, occurrences-cons}
use Rattle.refine_parts.proofs.Naming.{all-placed}

-- ---- a timer that is scheduled last
cons-placed : (timer other : Timer) (others : List Timer) → other.when < timer.when
    → placed timer (other ∷ others) ≡ other ∷ placed timer others
cons-placed timer other others h = rw (lt-ltb other.when timer.when h) refl

first-placed : (timer other : Timer) (others : List Timer) → timer.when ≤ other.when
    → placed timer (other ∷ others) ≡ timer ∷ other ∷ others
first-placed timer other others h = rw (le-ltb other.when timer.when h) refl

cons-after : (timer other : Timer) (others : List Timer) → other.when ≤ timer.when
    → placed_after timer (other ∷ others) ≡ other ∷ placed_after timer others
cons-after timer other others h = rw (le-ltb timer.when other.when h) refl

first-after : (timer other : Timer) (others : List Timer) → timer.when < other.when
    → placed_after timer (other ∷ others) ≡ timer ∷ other ∷ others
first-after timer other others h = rw (lt-ltb timer.when other.when h) refl

-- placing one before its equals commutes with placing another after its own
both-placed : (timer new : Timer) (timers : List Timer) → placed timer (placed_after new timers) ≡ placed_after new (placed timer timers)
both-placed timer new [] = go (cases_lt new.when timer.when)
  where
    go : (new.when < timer.when) ⊎ (timer.when ≤ new.when) → placed timer (new ∷ []) ≡ placed_after new (timer ∷ [])
    go (inl h) = cons-placed timer new [] h ∙ sym (first-after new timer [] h)
    go (inr h) = first-placed timer new [] h ∙ sym (cons-after new timer [] h)
both-placed timer new (other ∷ others) =
    go (cases_lt new.when other.when) (cases_lt other.when timer.when) (cases_lt new.when timer.when) (both-placed timer new others)
  where
    go : (new.when < other.when) ⊎ (other.when ≤ new.when) → (other.when < timer.when) ⊎ (timer.when ≤ other.when)
        → (new.when < timer.when) ⊎ (timer.when ≤ new.when)
        → placed timer (placed_after new others) ≡ placed_after new (placed timer others)
        → placed timer (placed_after new (other ∷ others)) ≡ placed_after new (placed timer (other ∷ others))
    go (inl a) (inl b) c more =
        ap (placed timer) (first-after new other others a) ∙ cons-placed timer new (other ∷ others) (omega arith)
        ∙ ap (λ x. new ∷ x) (cons-placed timer other others b)
        ∙ sym (ap (placed_after new) (cons-placed timer other others b) ∙ first-after new other (placed timer others) a)
    go (inl a) (inr b) (inl c) more =
        ap (placed timer) (first-after new other others a) ∙ cons-placed timer new (other ∷ others) c
        ∙ ap (λ x. new ∷ x) (first-placed timer other others b)
        ∙ sym (ap (placed_after new) (first-placed timer other others b) ∙ first-after new timer (other ∷ others) c)
    go (inl a) (inr b) (inr c) more =
        ap (placed timer) (first-after new other others a) ∙ first-placed timer new (other ∷ others) c
        ∙ sym (ap (placed_after new) (first-placed timer other others b) ∙ cons-after new timer (other ∷ others) c
        ∙ ap (λ x. timer ∷ x) (first-after new other others a))
    go (inr a) (inl b) c more =
        ap (placed timer) (cons-after new other others a) ∙ cons-placed timer other (placed_after new others) b
        ∙ ap (λ x. other ∷ x) more
        ∙ sym (ap (placed_after new) (cons-placed timer other others b) ∙ cons-after new other (placed timer others) a)
    go (inr a) (inr b) c more =
        ap (placed timer) (cons-after new other others a) ∙ first-placed timer other (placed_after new others) b
        ∙ sym (ap (placed_after new) (first-placed timer other others b) ∙ cons-after new timer (other ∷ others) (omega arith)
        ∙ ap (λ x. timer ∷ x) (cons-after new other others a))

pub last-by_deadline : (timers : List Timer) (new : Timer) → by_deadline (timers ++ new ∷ []) ≡ placed_after new (by_deadline timers)
last-by_deadline [] new = refl
last-by_deadline (timer ∷ timers) new = ap (placed timer) (last-by_deadline timers new) ∙ both-placed timer new (by_deadline timers)

-- ---- by deadline
abbrev AreLater : ℕ → List Timer → Type 0
AreLater when = Each (λ (timer : Timer). when ≤ timer.when)

abbrev IsSorted : List Timer → Type 0
IsSorted [] = Unit {0}
IsSorted (timer ∷ timers) = AreLater timer.when timers × IsSorted timers

later_still : (a b : ℕ) → a ≤ b → (timers : List Timer) → AreLater b timers → AreLater a timers
later_still a b h [] l = tt
later_still a b h (timer ∷ timers) l = (let x = l.0 in omega arith, later_still a b h timers l.1)

sorted-placed : (timer : Timer) (timers : List Timer) → IsSorted timers → IsSorted (placed timer timers)
sorted-placed timer [] s = (tt, tt)
sorted-placed timer (other ∷ others) s = go (cases_lt other.when timer.when) (sorted-placed timer others s.1)
  where
    go : (other.when < timer.when) ⊎ (timer.when ≤ other.when) → IsSorted (placed timer others) → IsSorted (placed timer (other ∷ others))
    go (inl h) more =
        subst IsSorted (sym (cons-placed timer other others h))
        (all-placed (λ (x : Timer). other.when ≤ x.when) timer others (omega arith) s.0, more)
    go (inr h) more =
        subst IsSorted (sym (first-placed timer other others h))
        ((h, later_still timer.when other.when h others s.0), s)

sorted : (timers : List Timer) → IsSorted (by_deadline timers)
sorted [] = tt
sorted (timer ∷ timers) = sorted-placed timer (by_deadline timers) (sorted timers)

-- ---- some timers leave
front-placed : (timer : Timer) (timers : List Timer) → AreLater timer.when timers → placed timer timers ≡ timer ∷ timers
front-placed timer [] l = refl
front-placed timer (other ∷ others) l = first-placed timer other others l.0

filter-placed : (test : Timer → Bool) (timer : Timer) (timers : List Timer) → IsSorted timers
    → filter test (placed timer timers) ≡ cond (test timer) (placed timer (filter test timers)) (filter test timers)
filter-placed test timer [] s = refl
filter-placed test timer (other ∷ others) s =
    go (cases_lt other.when timer.when) (test other) refl (test timer) refl (filter-placed test timer others s.1)
  where
    go : (other.when < timer.when) ⊎ (timer.when ≤ other.when) → (b : Bool) → test other ≡ b → (c : Bool) → test timer ≡ c
        → filter test (placed timer others) ≡ cond (test timer) (placed timer (filter test others)) (filter test others)
        → filter test (placed timer (other ∷ others))
        ≡ cond (test timer) (placed timer (filter test (other ∷ others))) (filter test (other ∷ others))
    go (inl h) true e true f more =
        ap (filter test) (cons-placed timer other others h)
        ∙ rw (e, f) (ap (λ x. other ∷ x) (more ∙ rw f refl) ∙ sym (cons-placed timer other (filter test others) h))
    go (inl h) true e false f more =
        ap (filter test) (cons-placed timer other others h) ∙ rw (e, f) (ap (λ x. other ∷ x) (more ∙ rw f refl))
    go (inl h) false e c f more = ap (filter test) (cons-placed timer other others h) ∙ rw e more
    go (inr h) b e true f more =
        let later : AreLater timer.when (filter test (other ∷ others)) =
        all-filter (λ (x : Timer). timer.when ≤ x.when) test (other ∷ others) (h, later_still timer.when other.when h others s.0) in
        ap (filter test) (first-placed timer other others h) ∙ rw f (sym (front-placed timer (filter test (other ∷ others)) later))
    go (inr h) b e false f more = ap (filter test) (first-placed timer other others h) ∙ rw f refl

pub filter-by_deadline : (test : Timer → Bool) (timers : List Timer) → by_deadline (filter test timers) ≡ filter test (by_deadline timers)
filter-by_deadline test [] = refl
filter-by_deadline test (timer ∷ timers) = go (test timer) refl (filter-by_deadline test timers)
  where
    go : (b : Bool) → test timer ≡ b → by_deadline (filter test timers) ≡ filter test (by_deadline timers)
        → by_deadline (cond b (timer ∷ filter test timers) (filter test timers)) ≡ filter test (placed timer (by_deadline timers))
    go true e more =
        ap (placed timer) more ∙ sym (filter-placed test timer (by_deadline timers) (sorted timers) ∙ rw e refl)
    go false e more = more ∙ sym (filter-placed test timer (by_deadline timers) (sorted timers) ∙ rw e refl)

-- a test that a function doesn't touch
pub filter-map : (test : Timer → Bool) (f : Timer → Timer) → ((x : Timer) → test (f x) ≡ test x) → (timers : List Timer)
    → filter test (map f timers) ≡ map f (filter test timers)
filter-map test f same [] = refl
filter-map test f same (timer ∷ timers) = rw (same timer, filter-map test f same timers) (go (test timer))
  where
    go : (b : Bool)
        → cond b (f timer ∷ map f (filter test timers)) (map f (filter test timers))
        ≡ map f (cond b (timer ∷ filter test timers) (filter test timers))
    go true = refl
    go false = refl

pub placed-map : (f : Timer → Timer) → ((x : Timer) → (f x).when ≡ x.when) → (timer : Timer) (timers : List Timer)
    → map f (placed_after timer timers) ≡ placed_after (f timer) (map f timers)
placed-map f same timer [] = refl
placed-map f same timer (other ∷ others) = go (nat_lt timer.when other.when) refl (placed-map f same timer others)
  where
    go : (b : Bool) → nat_lt timer.when other.when ≡ b → map f (placed_after timer others) ≡ placed_after (f timer) (map f others)
        → map f (cond b (timer ∷ other ∷ others) (other ∷ placed_after timer others))
        ≡ placed_after (f timer) (f other ∷ map f others)
    go true e more =
        let here : nat_lt (f timer).when (f other).when ≡ true = rw (same timer, same other) e in rw here refl
    go false e more =
        let here : nat_lt (f timer).when (f other).when ≡ false = rw (same timer, same other) e in
        rw here (ap (λ x. f other ∷ x) more)

-- ---- tags
pub tags-by_deadline : (k : ℕ) (timers : List Timer) → occurrences k (map timer_tag (by_deadline timers)) ≡ occurrences k (map timer_tag timers)
tags-by_deadline k [] = refl
tags-by_deadline k (timer ∷ timers) =
    let a = tags-placed timer (by_deadline timers) in
    let b = tags-by_deadline k timers in
    let c = occurrences-cons k timer.tag (map timer_tag timers) in
    omega (arith, a, b, c)
  where
    tags-placed : (timer : Timer) (timers : List Timer)
        → occurrences k (map timer_tag (placed timer timers)) ≡ one_at k timer.tag + occurrences k (map timer_tag timers)
    tags-placed timer [] = occurrences-cons k timer.tag []
    tags-placed timer (other ∷ others) = go (nat_lt other.when timer.when) (tags-placed timer others)
      where
        go : (b : Bool) → occurrences k (map timer_tag (placed timer others)) ≡ one_at k timer.tag + occurrences k (map timer_tag others)
            → occurrences k (map timer_tag (cond b (other ∷ placed timer others) (timer ∷ other ∷ others)))
            ≡ one_at k timer.tag + occurrences k (map timer_tag (other ∷ others))
        go true more =
            let a = occurrences-cons k other.tag (map timer_tag (placed timer others)) in
            let b = occurrences-cons k other.tag (map timer_tag others) in
            omega (arith, a, b, more)
        go false more = occurrences-cons k timer.tag (map timer_tag (other ∷ others))

-- ---- the earliest
least-min : (a b : ℕ) (timers : List Timer) → least (min a b) timers ≡ min a (least b timers)
least-min a b [] = refl
least-min a b (timer ∷ timers) =
    let e : min (min a b) timer.when ≡ min a (min b timer.when) = omega arith in
    ap (λ n. least n timers) e ∙ least-min a (min b timer.when) timers

first-placed_when : (timer : Timer) (timers : List Timer) (when : ℕ) → first_when timers ≡ Some when
    → first_when (placed timer timers) ≡ Some (min timer.when when)
first-placed_when timer [] when e = absurd (cc)
first-placed_when timer (other ∷ others) when e = go (cases_lt other.when timer.when)
  where
    same : other.when ≡ when
    same = same_Some other.when when e

    go : (other.when < timer.when) ⊎ (timer.when ≤ other.when) → first_when (placed timer (other ∷ others)) ≡ Some (min timer.when when)
    go (inl h) = ap first_when (cons-placed timer other others h) ∙ ap Some (let s = same in omega (arith, s))
    go (inr h) = ap first_when (first-placed timer other others h) ∙ ap Some (let s = same in omega (arith, s))

pub first_least : (timer : Timer) (timers : List Timer) → first_when (by_deadline (timer ∷ timers)) ≡ Some (least timer.when timers)
first_least timer [] = refl
first_least timer (other ∷ others) =
    first-placed_when timer (by_deadline (other ∷ others)) (least other.when others) (first_least other others)
    ∙ ap Some (sym (least-min timer.when other.when others))
