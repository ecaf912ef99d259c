-- The numbers of those that run, and the children with these numbers.
use Rattle.std.proofs.Common.{◌≡◌, ℕ, zero, suc, ◌+◌, ◌<◌, ◌≤◌, Bool, true, false, cond, List, [], ◌∷◌, ◌++◌, Option, Some, length}
use Rattle.std.proofs.Common.{map, get_or, refl, sym, ap, ◌∙◌, subst, arith}
use Rattle.std.specs.Prelude.{slice_get, slice_set}
use Rattle.std.specs.List.{filter}
use Rattle.std.proofs.lemmas.List.{map-append}
use Rattle.std.proofs.lemmas.List.Elements.{filter-append}
use Rattle.std.proofs.lemmas.Option.{slice_get_within}
use Rattle.model_hub.specs.declared.child.Child.{Child}
use Rattle.model_hub.specs.Children.{runs}
use Rattle.model_hub.specs.Closing.{number_of}
use Rattle.aio_roster.specs.Rosters.{IsRoster, Numbered, running_of}
use Rattle.aio_roster.specs.Changes.{IsKth}
use Rattle.aio_roster.proofs.Seated.{some_is, none_some}

pub within : (xs : List Child) (n : ℕ) (c : Child) → slice_get xs n ≡ Some c → n < length xs
within xs n c h = slice_get_within xs n c h

abbrev pub goes : Child → Bool
goes child = runs child.stay

-- ---- the k-th of those that run
pub record Found (children : List Child) (k n : ℕ) : Type 0 where
  pub before : List Child
  pub child : Child
  pub after : List Child
  pub whole : children ≡ before ++ child ∷ after
  pub number : child.number ≡ n
  pub goes : runs child.stay ≡ true
  pub earlier : length (running_of before) ≡ k

pub running_cons : (c : Child) (cs : List Child) (b : Bool) → runs c.stay ≡ b
    → running_of (c ∷ cs) ≡ cond b (c.number ∷ running_of cs) (running_of cs)
running_cons c cs b is = ap (λ x. map number_of (cond x (c ∷ filter goes cs) (filter goes cs))) is ∙ each b
  where
    each : (x : Bool) → map number_of (cond x (c ∷ filter goes cs) (filter goes cs)) ≡ cond x (c.number ∷ running_of cs) (running_of cs)
    each true = refl
    each false = refl

found_at : (c : Child) (cs : List Child) (n : ℕ) (b : Bool) → runs c.stay ≡ b
    → ((k : ℕ) → slice_get (running_of cs) k ≡ Some n → Found cs k n)
    → (k : ℕ) → slice_get (cond b (c.number ∷ running_of cs) (running_of cs)) k ≡ Some n → Found (c ∷ cs) k n
found_at c cs n true is rec zero h =
    record { before = []; child = c; after = cs; whole = refl; number = some_is c.number n h; goes = is; earlier = refl }
found_at c cs n true is rec (suc k) h =
    let f = rec k h in
    record {
      before = c ∷ f.before;
      child = f.child;
      after = f.after;
      whole = ap (λ (l : List Child). c ∷ l) f.whole;
      number = f.number;
      goes = f.goes;
      earlier = ap length (running_cons c f.before true is) ∙ ap suc f.earlier;
    }
found_at c cs n false is rec k h =
    let f = rec k h in
    record {
      before = c ∷ f.before;
      child = f.child;
      after = f.after;
      whole = ap (λ (l : List Child). c ∷ l) f.whole;
      number = f.number;
      goes = f.goes;
      earlier = ap length (running_cons c f.before false is) ∙ f.earlier;
    }

pub find : (children : List Child) (k n : ℕ) → slice_get (running_of children) k ≡ Some n → Found children k n
find [] k n h = absurd (none_some n h)
find (c ∷ cs) k n h =
    found_at c cs n (runs c.stay) refl (λ m g. find cs m n g) k (ap (λ l. slice_get l k) (sym (running_cons c cs (runs c.stay) refl)) ∙ h)

-- the number of one that runs is among them
kth_more : (c : Child) (cs : List Child) (n : ℕ) (b : Bool) → runs c.stay ≡ b → (k : ℕ) × (slice_get (running_of cs) k ≡ Some n)
    → (k : ℕ) × (slice_get (running_of (c ∷ cs)) k ≡ Some n)
kth_more c cs n true is found = (suc found.0, ap (λ l. slice_get l (suc found.0)) (running_cons c cs true is) ∙ found.1)
kth_more c cs n false is found = (found.0, ap (λ l. slice_get l found.0) (running_cons c cs false is) ∙ found.1)

pub kth_of : (children : List Child) (n : ℕ) (child : Child) → slice_get children n ≡ Some child → runs child.stay ≡ true
    → (k : ℕ) × (slice_get (running_of children) k ≡ Some child.number)
kth_of [] n child at goes = absurd (none_some child at)
kth_of (c ∷ cs) zero child at goes =
    let same = some_is c child at in
    let is : runs c.stay ≡ true = ap (λ (x : Child). runs x.stay) same ∙ goes in
    (0, ap (λ l. slice_get l 0) (running_cons c cs true is) ∙ ap (λ (x : Child). Some x.number) same)
kth_of (c ∷ cs) (suc n) child at goes = kth_more c cs child.number (runs c.stay) refl (kth_of cs n child at goes)

pub running_append : (xs ys : List Child) → running_of (xs ++ ys) ≡ running_of xs ++ running_of ys
running_append xs ys = ap (map number_of) (filter-append goes xs ys) ∙ map-append number_of (filter goes xs) (filter goes ys)

-- ---- places in lists
pub get_middle : (xs : List Child) (y : Child) (ys : List Child) → slice_get (xs ++ y ∷ ys) (length xs) ≡ Some y
get_middle [] y ys = refl
get_middle (x ∷ xs) y ys = get_middle xs y ys

pub set_middle : (xs : List Child) (y : Child) (ys : List Child) (z : Child) → slice_set (xs ++ y ∷ ys) (length xs) z ≡ xs ++ z ∷ ys
set_middle [] y ys z = refl
set_middle (x ∷ xs) y ys z = ap (λ (l : List Child). x ∷ l) (set_middle xs y ys z)

pub get_after : (xs ys : List ℕ) → slice_get (xs ++ ys) (length xs) ≡ slice_get ys 0
get_after [] ys = refl
get_after (x ∷ xs) ys = get_after xs ys

pub nothing_left : (xs : List ℕ) → length xs ≡ 0 → xs ≡ []
nothing_left [] h = refl
nothing_left (x ∷ xs) h = absurd (omega arith)

pub get_left : (xs ys : List Child) (n : ℕ) (c : Child) → slice_get xs n ≡ Some c → slice_get (xs ++ ys) n ≡ Some c
get_left [] ys n c h = absurd (none_some c h)
get_left (x ∷ xs) ys zero c h = h
get_left (x ∷ xs) ys (suc n) c h = get_left xs ys n c h

pub numbered_front : (xs ys : List Child) → Numbered (xs ++ ys) → Numbered xs
numbered_front xs ys all n c h = all n c (get_left xs ys n c h)

abbrev pub Below : ℕ → List Child → Type 0
Below k [] = Unit {0}
Below k (c ∷ cs) = (c.number < k) × Below k cs

pub none_less : (n : ℕ) → n ≡ 0 + n
none_less n = omega arith

pub below : (cs : List Child) (base top : ℕ) → ((n : ℕ) (c : Child) → slice_get cs n ≡ Some c → c.number ≡ base + n) → base + length cs ≤ top
    → Below top cs
below [] base top all few = tt
below (c ∷ cs) base top all few = (
  omega (arith, all 0 c refl),
  below cs (base + 1) top (λ n x h. all (suc n) x h ∙ omega arith) (omega arith),
)

-- a child of a list with one more is one of the list, or the last
pub snoc_case : (P : ℕ → Child → Type 0) (xs : List Child) (y : Child) → ((n : ℕ) (c : Child) → slice_get xs n ≡ Some c → P n c)
    → P (length xs) y → (n : ℕ) (c : Child) → slice_get (xs ++ y ∷ []) n ≡ Some c → P n c
snoc_case P [] y first last zero c h = subst (P 0) (some_is y c h) last
snoc_case P [] y first last (suc n) c h = absurd (none_some c h)
snoc_case P (x ∷ xs) y first last zero c h = first zero c h
snoc_case P (x ∷ xs) y first last (suc n) c h =
    snoc_case (λ m d. P (suc m) d) xs y (λ m d g. first (suc m) d g) last n c h

-- the child with the k-th of these numbers stands at its number
pub stands : (children : List Child) (k n : ℕ) → Numbered children → slice_get (running_of children) k ≡ Some n
    → (child : Child) × (slice_get children n ≡ Some child) × (runs child.stay ≡ true)
stands children k n numbered named =
    let f = find children k n named in
    let middle = ap (λ (l : List Child). slice_get l (length f.before)) f.whole ∙ get_middle f.before f.child f.after in
    (f.child, ap (slice_get children) (sym f.number ∙ numbered (length f.before) f.child middle) ∙ middle, f.goes)

-- ---- the child that a roster finds for the k-th of those that run
got : {A : Type 0} (xs : List A) (k : ℕ) (x : A) → x ≡ get_or xs k x → k < length xs → slice_get xs k ≡ Some x
got [] k x is lt = absurd (omega arith)
got (y ∷ ys) zero x is lt = ap Some (sym is)
got (y ∷ ys) (suc k) x is lt = got ys k x is (omega arith)

module _ (children : List Child) (holders : List (Option ℕ)) (running : List ℕ) (noted : ℕ) (roster : IsRoster children holders running noted)
    (k number : ℕ) (is : number ≡ get_or running k number) (few : k < length (running_of children)) where
  pub named_by : slice_get (running_of children) k ≡ Some number
  named_by =
      ap (λ l. slice_get l k) (sym roster.runs) ∙ got running k number is (omega (arith, few, ap length roster.runs))

  pub within_all : number < length children
  within_all =
      let there = stands children k number roster.numbered named_by in slice_get_within children number there.0 there.1

  pub child_at : (child : Child) → child ≡ get_or children number child → slice_get children number ≡ Some child
  child_at child is_child = got children number child is_child within_all

  -- it is the child with the k-th of the numbers of those that run
  pub kth : (room : Bool) (child : Child) → child ≡ get_or children number child
      → IsKth k (record { children = children; noted = noted; room = room }) child
  kth room child is_child =
      let at = child_at child is_child in
      let there = stands children k number roster.numbered named_by in
      let same = roster.numbered number child at in
      record {
        named = named_by ∙ ap Some (sym same);
        is =
            record {
              at = ap (slice_get children) same ∙ at;
              short = roster.short number child at;
              modest = roster.modest number child at;
            };
        goes = ap (λ (c : Child). runs c.stay) (some_is child there.0 (sym at ∙ there.1)) ∙ there.2;
      }
