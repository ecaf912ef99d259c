-- The timers that live, in order of scheduling, as slots are filled and left.
use Rattle.std.proofs.Common.{◌≡◌, ℕ, zero, ◌+◌, ◌<◌, ◌≤◌, ◌⊎◌, Bool, true, false, cond, not, ◌==◌, List, [], ◌∷◌, ◌++◌, Option, Some, None, refl}
use Rattle.std.proofs.Common.{sym, ap, subst, inl, inr, arith, ◌∙◌}
use Rattle.std.proofs.Common.{if◌then◌else◌}
use Rattle.std.specs.List.{AllByRecursion, Contains, cons_option, filter}
use Rattle.std.proofs.lemmas.Bool.{cases_eq, eqb-true, eq-eqb, ne_eqb, and_from, and_right}
use Rattle.std.proofs.lemmas.List.Elements.{filter_map-append}
use Rattle.slab.specs.Slab.{Slab, get, Updates}
use Rattle.slab.proofs.SlabLemmas.{Contains-cons, Contains-cons_cases}
use Rattle.model_loop.specs.Parts.{Timer}
use Rattle.aio_timer.specs.Schedule.{is_of}
use Rattle.aio_timer.specs.Kept.{AreRising, Entry, is_numbered, timer_if, timer_of, waiting}
use Rattle.aio_timer.proofs.Sorting.{AreFrom}

abbrev told : Entry → Bool → Option Timer
told e c = if c then Some (timer_of e) else None

told_not : (number : ℕ) (o : Option Entry) → is_numbered number o ≡ false → timer_if number o ≡ None
told_not number None q = refl
told_not number (Some e) q = ap (told e) q

own : (e : Entry) → timer_if e.0.number (Some e) ≡ Some (timer_of e)
own e = ap (told e) (eq-eqb e.0.number e.0.number refl)

pub is_own : (e : Entry) → is_of e.0 (timer_of e) ≡ true
is_own e = and_from (e.0.when == e.0.when) (e.0.number == e.0.number) (eq-eqb e.0.when e.0.when refl) (eq-eqb e.0.number e.0.number refl)

-- ---- what holds of timers that live
all_told : (P : Timer → Type 0) (e : Entry) (c : Bool) (ts : List Timer) → P (timer_of e) → AllByRecursion P ts
    → AllByRecursion P (cons_option (told e c) ts)
all_told P e true ts h a = (h, a)
all_told P e false ts h a = a

all_rest : (P : Timer → Type 0) (o : Option Timer) (ts : List Timer) → AllByRecursion P (cons_option o ts) → AllByRecursion P ts
all_rest P None ts a = a
all_rest P (Some t) ts a = a.1

pub all_waiting : (entries : Slab Entry) (P : Timer → Type 0) → ((slot : ℕ) (e : Entry) → get entries slot ≡ Some e → P (timer_of e))
    → (xs : List (ℕ × ℕ)) → AllByRecursion P (waiting entries xs)
all_waiting entries P each [] = tt
all_waiting entries P each (x ∷ xs) = go (get entries x.1) refl (all_waiting entries P each xs)
  where
    go : (o : Option Entry) → get entries x.1 ≡ o → AllByRecursion P (waiting entries xs)
        → AllByRecursion P (cons_option (timer_if x.0 o) (waiting entries xs))
    go None s rest = rest
    go (Some e) s rest = all_told P e (e.0.number == x.0) (waiting entries xs) (each x.1 e s) rest

pub waiting_has : (entries : Slab Entry) (P : Timer → Type 0) (xs : List (ℕ × ℕ)) → AllByRecursion P (waiting entries xs)
    → (slot : ℕ) (e : Entry) → get entries slot ≡ Some e → Contains xs (e.0.number, slot) → P (timer_of e)
waiting_has entries P [] a slot e s among = absurd (omega (arith, among.1))
waiting_has entries P (x ∷ xs) a slot e s among =
    go (Contains-cons_cases x (e.0.number, slot) xs among)
    (λ later. waiting_has entries P xs (all_rest P (timer_if x.0 (get entries x.1)) (waiting entries xs) a) slot e s later)
  where
    go : (x ≡ (e.0.number, slot)) ⊎ Contains xs (e.0.number, slot) → (Contains xs (e.0.number, slot) → P (timer_of e)) → P (timer_of e)
    go (inl same) rest =
        let W : List Timer = waiting entries xs in
        let at : AllByRecursion P (cons_option (timer_if e.0.number (get entries slot)) W) =
        subst (λ (y : ℕ × ℕ). AllByRecursion P (cons_option (timer_if y.0 (get entries y.1)) W)) same a in
        let there : AllByRecursion P (cons_option (timer_if e.0.number (Some e)) W) =
        subst (λ (o : Option Entry). AllByRecursion P (cons_option (timer_if e.0.number o) W)) s at in
        let here : AllByRecursion P (timer_of e ∷ W) = subst (λ (o : Option Timer). AllByRecursion P (cons_option o W)) (own e) there in
        here.0
    go (inr later) rest = rest later

-- ---- numbers rise
from_lower : (a b : ℕ) (ts : List Timer) → a ≤ b → AreFrom b ts → AreFrom a ts
from_lower a b [] l f = tt
from_lower a b (t ∷ ts) l f = (let m : b ≤ t.tag = f.0 in omega arith, f.1)

pub from_rising : (entries : Slab Entry) (first : ℕ) (xs : List (ℕ × ℕ)) → AreRising first xs → AreFrom first (waiting entries xs)
from_rising entries first [] r = tt
from_rising entries first (x ∷ xs) r = go (get entries x.1) (from_rising entries (x.0 + 1) xs r.1)
  where
    low : first ≤ x.0
    low = r.0

    one : (e : Entry) (c : Bool) → (e.0.number == x.0) ≡ c → AreFrom (x.0 + 1) (waiting entries xs)
        → AreFrom first (cons_option (told e c) (waiting entries xs))
    one e true q rest =
        let same : e.0.number ≡ x.0 = eqb-true e.0.number x.0 q in
        (omega (arith, low), subst (λ (n : ℕ). AreFrom (n + 1) (waiting entries xs)) (sym same) rest)
    one e false q rest = from_lower first (x.0 + 1) (waiting entries xs) (omega (arith, low)) rest

    go : (o : Option Entry) → AreFrom (x.0 + 1) (waiting entries xs) → AreFrom first (cons_option (timer_if x.0 o) (waiting entries xs))
    go None rest = from_lower first (x.0 + 1) (waiting entries xs) (omega (arith, low)) rest
    go (Some e) rest = one e (e.0.number == x.0) refl rest

rising_lower : (a b : ℕ) (xs : List (ℕ × ℕ)) → a ≤ b → AreRising b xs → AreRising a xs
rising_lower a b [] l r = tt
rising_lower a b (x ∷ xs) l r = (let m : b ≤ x.0 = r.0 in omega arith, r.1)

pub rising_filter : (p : ℕ × ℕ → Bool) (first : ℕ) (xs : List (ℕ × ℕ)) → AreRising first xs → AreRising first (filter p xs)
rising_filter p first [] r = tt
rising_filter p first (x ∷ xs) r = go (p x) (rising_filter p (x.0 + 1) xs r.1)
  where
    low : first ≤ x.0
    low = r.0

    go : (c : Bool) → AreRising (x.0 + 1) (filter p xs) → AreRising first (cond c (x ∷ filter p xs) (filter p xs))
    go true rest = (low, rest)
    go false rest = rising_lower first (x.0 + 1) (filter p xs) (omega (arith, low)) rest

pub rising_push : (first number slot : ℕ) (xs : List (ℕ × ℕ)) → first ≤ number → AreRising first xs
    → AllByRecursion (λ (x : ℕ × ℕ). x.0 < number) xs → AreRising first (xs ++ (number, slot) ∷ [])
rising_push first number slot [] l r below = (l, tt)
rising_push first number slot (x ∷ xs) l r below =
    let under : x.0 < number = below.0 in
    (r.0, rising_push (x.0 + 1) number slot xs (omega arith) r.1 below.1)

pub rising_above : (first : ℕ) (xs : List (ℕ × ℕ)) (x : ℕ × ℕ) → AreRising first xs → Contains xs x → first ≤ x.0
rising_above first [] x r among = absurd (omega (arith, among.1))
rising_above first (y ∷ ys) x r among = go (Contains-cons_cases y x ys among) (λ later. rising_above (y.0 + 1) ys x r.1 later)
  where
    go : (y ≡ x) ⊎ Contains ys x → (Contains ys x → y.0 + 1 ≤ x.0) → first ≤ x.0
    go (inl same) rest = subst (λ (z : ℕ × ℕ). first ≤ z.0) same r.0
    go (inr later) rest =
        let l : first ≤ y.0 = r.0 in
        let m : y.0 + 1 ≤ x.0 = rest later in
        omega arith

-- a number has one slot
pub one_slot : (first : ℕ) (xs : List (ℕ × ℕ)) → AreRising first xs → (number a b : ℕ) → Contains xs (number, a) → Contains xs (number, b) → a ≡ b
one_slot first [] r number a b p q = absurd (omega (arith, p.1))
one_slot first (x ∷ xs) r number a b p q =
    go (Contains-cons_cases x (number, a) xs p) (Contains-cons_cases x (number, b) xs q)
    (λ s t. one_slot (x.0 + 1) xs r.1 number a b s t)
  where
    over : (c d : ℕ) → x ≡ (number, c) → Contains xs (number, d) → ⊥
    over c d same later =
        let here : x.0 ≡ number = ap (λ (z : ℕ × ℕ). z.0) same in
        let m : x.0 + 1 ≤ number = rising_above (x.0 + 1) xs (number, d) r.1 later in
        omega arith

    go : (x ≡ (number, a)) ⊎ Contains xs (number, a) → (x ≡ (number, b)) ⊎ Contains xs (number, b)
        → (Contains xs (number, a) → Contains xs (number, b) → a ≡ b) → a ≡ b
    go (inl s) (inl t) rest = ap (λ (z : ℕ × ℕ). z.1) (sym s ∙ t)
    go (inl s) (inr t) rest = absurd (over a b s t)
    go (inr s) (inl t) rest = absurd (over b a t s)
    go (inr s) (inr t) rest = rest s t

-- ---- a slot is left
abbrev others_of : Entry → List Timer → List Timer
others_of e = filter (λ (t : Timer). not (is_of e.0 t))

left_here : (e : Entry) (c : Bool) (ts : List Timer) → others_of e (cons_option (told e c) ts) ≡ others_of e ts
left_here e true ts =
    subst (λ (c : Bool). cond (not c) (timer_of e ∷ others_of e ts) (others_of e ts) ≡ others_of e ts) (sym (is_own e)) refl
left_here e false ts = refl

stays : (e f : Entry) (c : Bool) (ts : List Timer) → (c ≡ true → is_of e.0 (timer_of f) ≡ false)
    → others_of e (cons_option (told f c) ts) ≡ cons_option (told f c) (others_of e ts)
stays e f true ts off =
    subst (λ (c : Bool). cond (not c) (timer_of f ∷ others_of e ts) (others_of e ts) ≡ timer_of f ∷ others_of e ts) (sym (off refl)) refl
stays e f false ts off = refl

stays_if : (e : Entry) (x : ℕ × ℕ) (o : Option Entry) (ts : List Timer) → (x.0 ≡ e.0.number → ⊥)
    → others_of e (cons_option (timer_if x.0 o) ts) ≡ cons_option (timer_if x.0 o) (others_of e ts)
stays_if e x None ts off = refl
stays_if e x (Some f) ts off =
    stays e f (f.0.number == x.0) ts (λ q.
    let same : f.0.number ≡ x.0 = eqb-true f.0.number x.0 q in
    and_right (e.0.when == f.0.when) (e.0.number == f.0.number) (ne_eqb e.0.number f.0.number (λ h. off (sym (h ∙ same)))))

module _ (old new : Slab Entry) (slot : ℕ) (e : Entry) (was : get old slot ≡ Some e) (left : Updates old new slot None) where
  pub was_there : (other : ℕ) (f : Entry) → get new other ≡ Some f → get old other ≡ Some f
  was_there other f s = go (cases_eq other slot)
    where
      go : (other ≡ slot) ⊎ (other ≡ slot → ⊥) → get old other ≡ Some f
      go (inl same) =
          let none : get new other ≡ None = ap (get new) same ∙ left.changed in
          absurd (cc)
      go (inr differs) = sym (left.others other differs) ∙ s

  pub waiting_left : (xs : List (ℕ × ℕ)) → AllByRecursion (λ (x : ℕ × ℕ). x.0 ≡ e.0.number → x.1 ≡ slot) xs
      → waiting new xs ≡ filter (λ (t : Timer). not (is_of e.0 t)) (waiting old xs)
  waiting_left [] only = refl
  waiting_left (x ∷ xs) only = go (cases_eq x.1 slot) (waiting_left xs only.1)
    where
      go : (x.1 ≡ slot) ⊎ (x.1 ≡ slot → ⊥) → waiting new xs ≡ others_of e (waiting old xs)
          → cons_option (timer_if x.0 (get new x.1)) (waiting new xs) ≡ others_of e (cons_option (timer_if x.0 (get old x.1)) (waiting old xs))
      go (inl same) rest =
          let none : get new x.1 ≡ None = ap (get new) same ∙ left.changed in
          let there : get old x.1 ≡ Some e = ap (get old) same ∙ was in
          ap (λ (o : Option Entry). cons_option (timer_if x.0 o) (waiting new xs)) none
          ∙ rest
          ∙ sym (left_here e (e.0.number == x.0) (waiting old xs))
          ∙ ap (λ (o : Option Entry). others_of e (cons_option (timer_if x.0 o) (waiting old xs))) (sym there)
      go (inr differs) rest =
          ap (λ (o : Option Entry). cons_option (timer_if x.0 o) (waiting new xs)) (left.others x.1 differs)
          ∙ ap (λ (ts : List Timer). cons_option (timer_if x.0 (get old x.1)) ts) rest
          ∙ sym (stays_if e x (get old x.1) (waiting old xs) (λ h. differs (only.0 h)))

-- ---- a slot is filled
module _ (old new : Slab Entry) (slot : ℕ) (e : Entry) (vacant : get old slot ≡ None) (filled : Updates old new slot (Some e)) where
  waiting_kept : (xs : List (ℕ × ℕ)) → AllByRecursion (λ (x : ℕ × ℕ). x.0 < e.0.number) xs → waiting new xs ≡ waiting old xs
  waiting_kept [] below = refl
  waiting_kept (x ∷ xs) below = go (cases_eq x.1 slot) (waiting_kept xs below.1)
    where
      go : (x.1 ≡ slot) ⊎ (x.1 ≡ slot → ⊥) → waiting new xs ≡ waiting old xs
          → cons_option (timer_if x.0 (get new x.1)) (waiting new xs) ≡ cons_option (timer_if x.0 (get old x.1)) (waiting old xs)
      go (inl same) rest =
          let there : get new x.1 ≡ Some e = ap (get new) same ∙ filled.changed in
          let none : get old x.1 ≡ None = ap (get old) same ∙ vacant in
          let under : x.0 < e.0.number = below.0 in
          let other : timer_if x.0 (Some e) ≡ None = ap (told e) (ne_eqb e.0.number x.0 (omega arith)) in
          ap (λ (o : Option Entry). cons_option (timer_if x.0 o) (waiting new xs)) there
          ∙ ap (λ (o : Option Timer). cons_option o (waiting new xs)) other
          ∙ rest
          ∙ ap (λ (o : Option Entry). cons_option (timer_if x.0 o) (waiting old xs)) (sym none)
      go (inr differs) rest =
          ap (λ (o : Option Entry). cons_option (timer_if x.0 o) (waiting new xs)) (filled.others x.1 differs)
          ∙ ap (λ (ts : List Timer). cons_option (timer_if x.0 (get old x.1)) ts) rest

  pub waiting_put : (xs : List (ℕ × ℕ)) → AllByRecursion (λ (x : ℕ × ℕ). x.0 < e.0.number) xs
      → waiting new (xs ++ (e.0.number, slot) ∷ []) ≡ waiting old xs ++ timer_of e ∷ []
  waiting_put xs below =
      let last : waiting new ((e.0.number, slot) ∷ []) ≡ timer_of e ∷ [] =
      ap (λ (o : Option Entry). cons_option (timer_if e.0.number o) []) filled.changed
      ∙ ap (λ (o : Option Timer). cons_option o []) (own e) in
      filter_map-append (λ (pair : ℕ × ℕ). timer_if pair.0 (get new pair.1)) xs ((e.0.number, slot) ∷ [])
      ∙ ap (λ (ts : List Timer). ts ++ waiting new ((e.0.number, slot) ∷ [])) (waiting_kept xs below)
      ∙ ap (λ (ts : List Timer). waiting old xs ++ ts) last

-- ---- slots of timers that are over leave
module _ (entries : Slab Entry) where
  abbrev is_there : ℕ × ℕ → Bool
  is_there x = is_numbered x.0 (get entries x.1)

  pub waiting_thinned : (xs : List (ℕ × ℕ)) → waiting entries (filter (λ (pair : ℕ × ℕ). is_numbered pair.0 (get entries pair.1)) xs) ≡ waiting entries xs
  waiting_thinned [] = refl
  waiting_thinned (x ∷ xs) = go (is_there x) refl (waiting_thinned xs)
    where
      go : (c : Bool) → is_there x ≡ c → waiting entries (filter is_there xs) ≡ waiting entries xs
          → waiting entries (cond c (x ∷ filter is_there xs) (filter is_there xs)) ≡ cons_option (timer_if x.0 (get entries x.1)) (waiting entries xs)
      go true q rest = ap (λ (ts : List Timer). cons_option (timer_if x.0 (get entries x.1)) ts) rest
      go false q rest = rest ∙ ap (λ (o : Option Timer). cons_option o (waiting entries xs)) (sym (told_not x.0 (get entries x.1) q))

pub contains_filter : {X : Type 0} (p : X → Bool) (xs : List X) (x : X) → p x ≡ true → Contains xs x → Contains (filter p xs) x
contains_filter p [] x passes among = absurd (omega (arith, among.1))
contains_filter {X} p (y ∷ ys) x passes among = go (Contains-cons_cases y x ys among) (λ later. contains_filter p ys x passes later)
  where
    more : (c : Bool) → Contains (filter p ys) x → Contains (cond c (y ∷ filter p ys) (filter p ys)) x
    more true later = Contains-cons y x (filter p ys) later
    more false later = later

    go : (y ≡ x) ⊎ Contains ys x → (Contains ys x → Contains (filter p ys) x) → Contains (filter p (y ∷ ys)) x
    go (inl same) rest =
        let here : p y ≡ true = ap p same ∙ passes in
        subst (λ (c : Bool). Contains (cond c (y ∷ filter p ys) (filter p ys)) x) (sym here) (zero, omega arith, same)
    go (inr later) rest = more (p y) (rest later)
