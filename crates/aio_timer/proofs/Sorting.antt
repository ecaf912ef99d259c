-- Timers that are placed one after another stand by deadline, and equal deadlines by number.
use Rattle.std.proofs.Common.{◌≡◌, ℕ, ◌+◌, ◌<◌, ◌≤◌, ◌⊎◌, Bool, true, false, cond, not, ◌==◌, List, [], ◌∷◌, ◌++◌, refl, sym, ap, subst, inl, inr}
use Rattle.std.proofs.Common.{arith, nat_lt, ◌∙◌}
use Rattle.std.proofs.Common.{if◌then◌else◌}
use Rattle.std.specs.List.{AllByRecursion, filter}
use Rattle.std.proofs.lemmas.Bool.{cases_lt, lt-ltb, ltb-true, ltb-false, eqb-true, ne_eqb, and_parts, and_left, and_right}
use Rattle.model_loop.specs.Parts.{Timer}
use Rattle.aio_timer.specs.declared.live.TimerId.{TimerId}
use Rattle.aio_timer.specs.Schedule.{placed_after, is_of, lives, without}
use Rattle.aio_timer.specs.Kept.{sorted_onto}

module _ {X : Type 0} where
  pub all_weaker : (P Q : X → Type 0) → ((x : X) → P x → Q x) → (xs : List X) → AllByRecursion P xs → AllByRecursion Q xs
  all_weaker P Q f [] a = tt
  all_weaker P Q f (x ∷ xs) a = (f x a.0, all_weaker P Q f xs a.1)

  pub all_filter : (p : X → Bool) (P : X → Type 0) (xs : List X) → AllByRecursion P xs → AllByRecursion P (filter p xs)
  all_filter p P [] a = tt
  all_filter p P (x ∷ xs) a = go (p x) (all_filter p P xs a.1)
    where
      go : (c : Bool) → AllByRecursion P (filter p xs) → AllByRecursion P (cond c (x ∷ filter p xs) (filter p xs))
      go true rest = (a.0, rest)
      go false rest = rest

  cons_cond : (x : X) (c : Bool) (xs ys : List X) → x ∷ cond c xs ys ≡ cond c (x ∷ xs) (x ∷ ys)
  cons_cond x true xs ys = refl
  cons_cond x false xs ys = refl

-- ---- what holds of timers that are placed
pub all_placed : (P : Timer → Type 0) (t : Timer) (ts : List Timer) → P t → AllByRecursion P ts → AllByRecursion P (placed_after t ts)
all_placed P t [] h a = (h, tt)
all_placed P t (x ∷ xs) h a = go (nat_lt t.when x.when) (all_placed P t xs h a.1)
  where
    go : (c : Bool) → AllByRecursion P (placed_after t xs) → AllByRecursion P (if c then t ∷ x ∷ xs else x ∷ placed_after t xs)
    go true rest = (h, a)
    go false rest = (a.0, rest)

pub all_sorted : (P : Timer → Type 0) (placed ts : List Timer) → AllByRecursion P placed → AllByRecursion P ts → AllByRecursion P (sorted_onto placed ts)
all_sorted P placed [] a b = a
all_sorted P placed (t ∷ ts) a b = all_sorted P (placed_after t placed) ts (all_placed P t placed b.0 a) b.1

all_unplaced : (P : Timer → Type 0) (t : Timer) (ts : List Timer) → AllByRecursion P (placed_after t ts) → P t × AllByRecursion P ts
all_unplaced P t [] a = (a.0, tt)
all_unplaced P t (x ∷ xs) a = go (nat_lt t.when x.when) (all_unplaced P t xs) a
  where
    go : (c : Bool) → (AllByRecursion P (placed_after t xs) → P t × AllByRecursion P xs)
        → AllByRecursion P (if c then t ∷ x ∷ xs else x ∷ placed_after t xs) → P t × AllByRecursion P (x ∷ xs)
    go true rest b = (b.0, b.1)
    go false rest b = let r = rest b.1 in (r.0, (b.0, r.1))

pub all_unsorted : (P : Timer → Type 0) (placed ts : List Timer) → AllByRecursion P (sorted_onto placed ts)
    → AllByRecursion P placed × AllByRecursion P ts
all_unsorted P placed [] a = (a, tt)
all_unsorted P placed (t ∷ ts) a =
    let r = all_unsorted P (placed_after t placed) ts a in
    let q = all_unplaced P t placed r.0 in
    (q.1, (q.0, r.1))

pub sorted_append : (placed ts : List Timer) (t : Timer) → sorted_onto placed (ts ++ t ∷ []) ≡ placed_after t (sorted_onto placed ts)
sorted_append placed [] t = refl
sorted_append placed (x ∷ xs) t = sorted_append (placed_after x placed) xs t

-- ---- the order
abbrev pub Precedes : Timer → Timer → Type 0
Precedes a b = (a.when < b.when) ⊎ ((a.when ≡ b.when) × (a.tag < b.tag))

abbrev pub IsAscending : List Timer → Type 0
IsAscending [] = Unit {0}
IsAscending (t ∷ ts) = AllByRecursion (Precedes t) ts × IsAscending ts

-- in order of scheduling
abbrev pub AreFrom : ℕ → List Timer → Type 0
AreFrom first [] = Unit {0}
AreFrom first (t ∷ ts) = (first ≤ t.tag) × AreFrom (t.tag + 1) ts

precedes_placed : (x t : Timer) → x.when ≤ t.when → x.tag < t.tag → Precedes x t
precedes_placed x t l n = go (cases_lt x.when t.when)
  where
    go : (x.when < t.when) ⊎ (t.when ≤ x.when) → Precedes x t
    go (inl k) = inl k
    go (inr k) = inr (omega arith, n)

earlier : (t x y : Timer) → t.when < x.when → Precedes x y → t.when < y.when
earlier t x y l (inl k) = omega arith
earlier t x y l (inr k) = let e : x.when ≡ y.when = k.0 in omega arith

ascending_placed : (t : Timer) (ts : List Timer) → AllByRecursion (λ (x : Timer). x.tag < t.tag) ts → IsAscending ts → IsAscending (placed_after t ts)
ascending_placed t [] below up = (tt, tt)
ascending_placed t (x ∷ xs) below up = go (nat_lt t.when x.when) refl (ascending_placed t xs below.1 up.1)
  where
    go : (c : Bool) → nat_lt t.when x.when ≡ c → IsAscending (placed_after t xs) → IsAscending (if c then t ∷ x ∷ xs else x ∷ placed_after t xs)
    go true e rest =
        let l : t.when < x.when = ltb-true t.when x.when e in
        ((inl l, all_weaker (Precedes x) (Precedes t) (λ y q. inl (earlier t x y l q)) xs up.0), up)
    go false e rest =
        let l : x.when ≤ t.when = ltb-false t.when x.when e in
        (all_placed (Precedes x) t xs (precedes_placed x t l below.0) up.0, rest)

-- a timer whose number is not below the first is placed
module _ (first : ℕ) (placed : List Timer) (below : AllByRecursion (λ (x : Timer). x.tag < first) placed)
    (up : IsAscending placed) (t : Timer) (from : first ≤ t.tag) where
  below_placed : AllByRecursion (λ (x : Timer). x.tag < t.tag + 1) (placed_after t placed)
  below_placed =
      all_placed (λ (x : Timer). x.tag < t.tag + 1) t placed (omega arith)
      (all_weaker (λ (x : Timer). x.tag < first) (λ (x : Timer). x.tag < t.tag + 1) (λ x l. omega arith) placed below)

  up_placed : IsAscending (placed_after t placed)
  up_placed =
      ascending_placed t placed
      (all_weaker (λ (x : Timer). x.tag < first) (λ (x : Timer). x.tag < t.tag) (λ x l. omega arith) placed below) up

pub ascending_sorted : (first : ℕ) (placed ts : List Timer) → AllByRecursion (λ (x : Timer). x.tag < first) placed → IsAscending placed → AreFrom first ts
    → IsAscending (sorted_onto placed ts)
ascending_sorted first placed [] below up from = up
ascending_sorted first placed (t ∷ ts) below up from =
    ascending_sorted (t.tag + 1) (placed_after t placed) ts (below_placed first placed below up t from.0) (up_placed first placed below up t from.0) from.1

-- ---- some of them
placed_first : (t : Timer) (ts : List Timer) → AllByRecursion (λ (x : Timer). t.when < x.when) ts → placed_after t ts ≡ t ∷ ts
placed_first t [] a = refl
placed_first t (x ∷ xs) a = rw (lt-ltb t.when x.when a.0) refl

filter_placed : (p : Timer → Bool) (t : Timer) (ts : List Timer) → IsAscending ts
    → filter p (placed_after t ts) ≡ cond (p t) (placed_after t (filter p ts)) (filter p ts)
filter_placed p t [] up = refl
filter_placed p t (x ∷ xs) up = go (nat_lt t.when x.when) refl (filter_placed p t xs up.1)
  where
    kept : (b : Bool) → nat_lt t.when x.when ≡ false → filter p (placed_after t xs) ≡ cond (p t) (placed_after t (filter p xs)) (filter p xs)
        → cond b (x ∷ filter p (placed_after t xs)) (filter p (placed_after t xs))
        ≡ cond (p t) (placed_after t (cond b (x ∷ filter p xs) (filter p xs))) (cond b (x ∷ filter p xs) (filter p xs))
    kept true e rest =
        rw e (ap (λ (ys : List Timer). x ∷ ys) rest ∙ cons_cond x (p t) (placed_after t (filter p xs)) (filter p xs))
    kept false e rest = rest

    go : (c : Bool) → nat_lt t.when x.when ≡ c → filter p (placed_after t xs) ≡ cond (p t) (placed_after t (filter p xs)) (filter p xs)
        → filter p (if c then t ∷ x ∷ xs else x ∷ placed_after t xs) ≡ cond (p t) (placed_after t (filter p (x ∷ xs))) (filter p (x ∷ xs))
    go true e rest =
        let l : t.when < x.when = ltb-true t.when x.when e in
        let later : AllByRecursion (λ (y : Timer). t.when < y.when) (x ∷ xs) =
        (l, all_weaker (Precedes x) (λ (y : Timer). t.when < y.when) (λ y q. earlier t x y l q) xs up.0) in
        let first : placed_after t (filter p (x ∷ xs)) ≡ t ∷ filter p (x ∷ xs) =
        placed_first t (filter p (x ∷ xs)) (all_filter p (λ (y : Timer). t.when < y.when) (x ∷ xs) later) in
        ap (λ (ys : List Timer). cond (p t) ys (filter p (x ∷ xs))) (sym first)
    go false e rest = kept (p x) e rest

onto_cond : (t : Timer) (c : Bool) (placed ts : List Timer) → sorted_onto (cond c (placed_after t placed) placed) ts ≡ sorted_onto placed (cond c (t ∷ ts) ts)
onto_cond t true placed ts = refl
onto_cond t false placed ts = refl

pub filter_sorted : (p : Timer → Bool) (first : ℕ) (placed ts : List Timer) → AllByRecursion (λ (x : Timer). x.tag < first) placed → IsAscending placed
    → AreFrom first ts → filter p (sorted_onto placed ts) ≡ sorted_onto (filter p placed) (filter p ts)
filter_sorted p first placed [] below up from = refl
filter_sorted p first placed (t ∷ ts) below up from =
    filter_sorted p (t.tag + 1) (placed_after t placed) ts (below_placed first placed below up t from.0) (up_placed first placed below up t from.0) from.1
    ∙ ap (λ (ys : List Timer). sorted_onto ys (filter p ts)) (filter_placed p t placed up)
    ∙ onto_cond t (p t) (filter p placed) (filter p ts)

-- ---- one of them
apart : (id : TimerId) (t x : Timer) → is_of id t ≡ true → Precedes t x → is_of id x ≡ false
apart id t x e (inl l) =
    let same : id.when ≡ t.when = eqb-true id.when t.when (and_parts (id.when == t.when) (id.number == t.tag) e).0 in
    and_left (id.when == x.when) (id.number == x.tag) (ne_eqb id.when x.when (omega arith))
apart id t x e (inr k) =
    let same : id.number ≡ t.tag = eqb-true id.number t.tag (and_parts (id.when == t.when) (id.number == t.tag) e).1 in
    let l : t.tag < x.tag = k.1 in
    and_right (id.when == x.when) (id.number == x.tag) (ne_eqb id.number x.tag (omega arith))

none_left_out : (id : TimerId) (ts : List Timer) → AllByRecursion (λ (t : Timer). is_of id t ≡ false) ts
    → filter (λ (t : Timer). not (is_of id t)) ts ≡ ts
none_left_out id [] a = refl
none_left_out id (t ∷ ts) a =
    let rest : List Timer = filter (λ (x : Timer). not (is_of id x)) ts in
    subst (λ (c : Bool). cond (not c) (t ∷ rest) rest ≡ t ∷ ts) (sym a.0) (ap (λ (ys : List Timer). t ∷ ys) (none_left_out id ts a.1))

pub without_none : (id : TimerId) (ts : List Timer) → AllByRecursion (λ (t : Timer). is_of id t ≡ false) ts → without id ts ≡ ts
without_none id [] a = refl
without_none id (t ∷ ts) a =
    subst (λ (c : Bool). cond c ts (t ∷ without id ts) ≡ t ∷ ts) (sym a.0) (ap (λ (ys : List Timer). t ∷ ys) (without_none id ts a.1))

pub lives_none : (id : TimerId) (ts : List Timer) → AllByRecursion (λ (t : Timer). is_of id t ≡ false) ts → lives id ts ≡ false
lives_none id [] a = refl
lives_none id (t ∷ ts) a = subst (λ (c : Bool). cond c true (lives id ts) ≡ false) (sym a.0) (lives_none id ts a.1)

pub lives_or_none : (id : TimerId) (ts : List Timer) → (lives id ts ≡ true) ⊎ AllByRecursion (λ (t : Timer). is_of id t ≡ false) ts
lives_or_none id [] = inr tt
lives_or_none id (t ∷ ts) = go (is_of id t) refl (lives_or_none id ts)
  where
    go : (c : Bool) → is_of id t ≡ c → (lives id ts ≡ true) ⊎ AllByRecursion (λ (x : Timer). is_of id x ≡ false) ts
        → (cond c true (lives id ts) ≡ true) ⊎ ((is_of id t ≡ false) × AllByRecursion (λ (x : Timer). is_of id x ≡ false) ts)
    go true e rest = inl refl
    go false e (inl l) = inl l
    go false e (inr a) = inr (e, a)

pub without_is : (id : TimerId) (ts : List Timer) → IsAscending ts → without id ts ≡ filter (λ (t : Timer). not (is_of id t)) ts
without_is id [] up = refl
without_is id (t ∷ ts) up = go (is_of id t) refl (without_is id ts up.1)
  where
    go : (c : Bool) → is_of id t ≡ c → without id ts ≡ filter (λ (x : Timer). not (is_of id x)) ts
        → cond c ts (t ∷ without id ts)
        ≡ cond (not c) (t ∷ filter (λ (x : Timer). not (is_of id x)) ts) (filter (λ (x : Timer). not (is_of id x)) ts)
    go true e rest =
        sym (none_left_out id ts (all_weaker (Precedes t) (λ (x : Timer). is_of id x ≡ false) (λ x q. apart id t x e q) ts up.0))
    go false e rest = ap (λ (ys : List Timer). t ∷ ys) rest

-- the one that none precedes is the first
pub first_of : (id : TimerId) (t : Timer) (ts : List Timer) → is_of id t ≡ true → IsAscending ts → AllByRecursion (λ (x : Timer). Precedes x t → ⊥) ts
    → ((P : Timer → Type 0) → AllByRecursion P ts → P t) → ts ≡ t ∷ without id ts
first_of id t [] own up least among = absurd (among (λ (x : Timer). ⊥) tt)
first_of id t (x ∷ xs) own up least among =
    let here : x ≡ t → x ≡ t = λ e. e in
    let same : x ≡ t =
    among (λ (y : Timer). y ≡ t → x ≡ t)
    (here, all_weaker (Precedes x) (λ (y : Timer). y ≡ t → x ≡ t) (λ y q e. absurd (least.0 (subst (Precedes x) e q))) xs up.0)
    refl in
    let first : is_of id x ≡ true = subst (λ (y : Timer). is_of id y ≡ true) (sym same) own in
    subst (λ (c : Bool). x ∷ xs ≡ t ∷ cond c xs (x ∷ without id xs)) (sym first) (ap (λ (y : Timer). y ∷ xs) same)
