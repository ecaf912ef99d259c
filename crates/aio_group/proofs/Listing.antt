-- Lists of groups and of tasks.
use Rattle.std.proofs.Common.{◌≡◌, ℕ, zero, suc, ◌<◌, ◌≤◌, ◌⊎◌, Bool, true, false, not, cond, List, [], ◌∷◌, ◌++◌, Some, None, filter, length, map, slice_get}
use Rattle.std.proofs.Common.{slice_set, refl, ap, sym, subst, ◌∙◌, inl, inr, arith}
use Rattle.std.specs.Prelude.{◌==◌, nat_eq, slice_index_or}
use Rattle.std.specs.BTreeMap.{is_at}
use Rattle.std.specs.BTreeSet.{insert_key}
use Rattle.std.specs.List.{AllByRecursion as Each, list_any}
use Rattle.std.specs.List.Sorted.{IsStrictlySortedBy}
use Rattle.std.specs.Ordering.{is_eq, nat_cmp}
use Rattle.std.specs.Set.{remove_key}
use Rattle.std.specs.declared.cmp.Ordering.TheVariants.{Less, Equal, Greater}
use Rattle.std.proofs.lemmas.Bool.{cases_eq, cases_lt, lt-ltb, le-ltb, eq-eqb, ne_eqb}
use Rattle.std.proofs.lemmas.Map.Keys.{sorted_head, sorted_tail}
use Rattle.model_loop.specs.Cancel.{has_seen}

pub set-set : {X : Type 0} (xs : List X) (i : ℕ) (a b : X) → slice_set (slice_set xs i a) i b ≡ slice_set xs i b
set-set [] i a b = refl
set-set (x ∷ xs) zero a b = refl
set-set (x ∷ xs) (suc i) a b = ap (λ ys. x ∷ ys) (set-set xs i a b)

pub set-same : {X : Type 0} (xs : List X) (i : ℕ) (x : X) → slice_get xs i ≡ Some x → slice_set xs i x ≡ xs
set-same [] i x e = refl
set-same (y ∷ xs) zero x e = let same : y ≡ x = cc in ap (λ z. z ∷ xs) (sym same)
set-same (y ∷ xs) (suc i) x e = ap (λ ys. y ∷ ys) (set-same xs i x e)

pub index_at : {X : Type 0} (xs : List X) (i : ℕ) (x d : X) → slice_get xs i ≡ Some x → slice_index_or xs i d ≡ x
index_at [] i x d e = absurd (cc)
index_at (y ∷ xs) zero x d e = cc
index_at (y ∷ xs) (suc i) x d e = index_at xs i x d e

pub index_past : {X : Type 0} (xs : List X) (i : ℕ) (d : X) → slice_get xs i ≡ None → slice_index_or xs i d ≡ d
index_past [] i d e = refl
index_past (y ∷ xs) zero d e = absurd (cc)
index_past (y ∷ xs) (suc i) d e = index_past xs i d e

pub set_past : {X : Type 0} (xs : List X) (i : ℕ) (x : X) → slice_get xs i ≡ None → slice_set xs i x ≡ xs
set_past [] i x e = refl
set_past (y ∷ xs) zero x e = absurd (cc)
set_past (y ∷ xs) (suc i) x e = ap (λ ys. y ∷ ys) (set_past xs i x e)

pub get_past : {X : Type 0} (xs : List X) (i : ℕ) → length xs ≤ i → slice_get xs i ≡ None
get_past [] i m = refl
get_past (y ∷ xs) zero m = absurd (omega arith)
get_past (y ∷ xs) (suc i) m = get_past xs i (omega arith)

pub all_push : {X : Type 0} (P : X → Type 0) (xs : List X) (x : X) → Each P xs → P x → Each P (xs ++ x ∷ [])
all_push P [] x a h = (h, tt)
all_push P (y ∷ xs) x a h = (a.0, all_push P xs x a.1 h)

pub all_filter : {X : Type 0} (P : X → Type 0) (test : X → Bool) (xs : List X) → Each P xs → Each P (filter test xs)
all_filter P test [] a = tt
all_filter P test (x ∷ xs) a = go (test x) (all_filter P test xs a.1)
  where
    go : (b : Bool) → Each P (filter test xs) → Each P (cond b (x ∷ filter test xs) (filter test xs))
    go true others = (a.0, others)
    go false others = others

pub all_to : {X : Type 0} (P Q : X → Type 0) (xs : List X) → ((x : X) → P x → Q x) → Each P xs → Each Q xs
all_to P Q [] f a = tt
all_to P Q (x ∷ xs) f a = (f x a.0, all_to P Q xs f a.1)

pub map_more : {X Y : Type 0} (f : X → Y) (xs : List X) (x : X) → map f (xs ++ x ∷ []) ≡ map f xs ++ f x ∷ []
map_more f [] x = refl
map_more f (y ∷ xs) x = ap (λ ys. f y ∷ ys) (map_more f xs x)

pub some_each : {X : Type 0} (xs ys : List X) → map Some xs ≡ map Some ys → xs ≡ ys
some_each [] [] e = refl
some_each [] (y ∷ ys) e = absurd (cc)
some_each (x ∷ xs) [] e = absurd (cc)
some_each (x ∷ xs) (y ∷ ys) e =
    let head : x ≡ y = cc in
    let tail : map Some xs ≡ map Some ys = cc in
    ap (λ z. z ∷ xs) head ∙ ap (λ zs. y ∷ zs) (some_each xs ys tail)

-- ---- children by number
less : (a b : ℕ) → a < b → nat_cmp a b ≡ Less
less a b l = rw (lt-ltb a b l) refl

equal : (a b : ℕ) → a ≡ b → nat_cmp a b ≡ Equal
equal a b e = rw (le-ltb a b (omega arith), eq-eqb a b e) refl

greater : (a b : ℕ) → b < a → nat_cmp a b ≡ Greater
greater a b l = rw (le-ltb a b (omega arith), ne_eqb a b (omega arith)) refl

at_equal : (a b : ℕ) → is_at (nat_cmp a) b ≡ (b == a)
at_equal a b = go (cases_lt a b) (cases_lt b a)
  where
    go : (a < b) ⊎ (b ≤ a) → (b < a) ⊎ (a ≤ b) → is_at (nat_cmp a) b ≡ (b == a)
    go (inl l) _ = rw (less a b l, ne_eqb b a (omega arith)) refl
    go (inr l) (inl m) = rw (greater a b m, ne_eqb b a (omega arith)) refl
    go (inr l) (inr m) = let e : a ≡ b = omega arith in rw (equal a b e, eq-eqb b a (sym e)) refl

seen_equal : (a b : ℕ) → nat_eq a b ≡ (b == a)
seen_equal a b = go (cases_eq a b)
  where
    go : (a ≡ b) ⊎ (a ≡ b → ⊥) → nat_eq a b ≡ (b == a)
    go (inl e) = rw (eq-eqb a b e, eq-eqb b a (sym e)) refl
    go (inr n) = rw (ne_eqb a b n, ne_eqb b a (λ e. n (sym e))) refl

-- a child is there where the set has it
pub has_seen-keys : (xs : List ℕ) (n : ℕ) → list_any (is_at (nat_cmp n)) xs ≡ has_seen xs n
has_seen-keys [] n = refl
has_seen-keys (x ∷ xs) n =
    let e : is_at (nat_cmp n) x ≡ nat_eq n x = at_equal n x ∙ sym (seen_equal n x) in
    rw (e, has_seen-keys xs n) refl

-- a greater number goes last
pub insert_last : (xs : List ℕ) (n : ℕ) → Each (λ x. x < n) xs → insert_key nat_cmp xs n ≡ xs ++ n ∷ []
insert_last [] n below = refl
insert_last (x ∷ xs) n below = rw (greater n x below.0) (ap (λ ys. x ∷ ys) (insert_last xs n below.1))

later_stay : (xs : List ℕ) (n : ℕ) → Each (λ y. nat_cmp n y ≡ Less) xs → filter (λ x. not (x == n)) xs ≡ xs
later_stay [] n l = refl
later_stay (x ∷ xs) n l =
    let other : (x == n) ≡ false = sym (at_equal n x) ∙ ap is_eq l.0 in
    rw other (ap (λ ys. x ∷ ys) (later_stay xs n l.1))

-- of rising numbers one is taken out
pub remove_only : (xs : List ℕ) (n : ℕ) → IsStrictlySortedBy nat_cmp xs → remove_key (is_at (nat_cmp n)) xs ≡ filter (λ x. not (x == n)) xs
remove_only [] n sorted = refl
remove_only (x ∷ xs) n sorted = rw (at_equal n x) (go (cases_eq x n) (remove_only xs n (sorted_tail nat_cmp x xs sorted)))
  where
    go : (x ≡ n) ⊎ (x ≡ n → ⊥) → remove_key (is_at (nat_cmp n)) xs ≡ filter (λ y. not (y == n)) xs
        → cond (x == n) xs (x ∷ remove_key (is_at (nat_cmp n)) xs) ≡ cond (not (x == n)) (x ∷ filter (λ y. not (y == n)) xs) (filter (λ y. not (y == n)) xs)
    go (inl e) ih =
        let later = sorted_head nat_cmp x xs sorted in
        rw (eq-eqb x n e) (sym (later_stay xs n (subst (λ m. Each (λ y. nat_cmp m y ≡ Less) xs) e later)))
    go (inr e) ih = rw (ne_eqb x n e) (ap (λ ys. x ∷ ys) ih)

-- what was put last is taken out again
pub taken_again : (xs : List ℕ) (n : ℕ) → Each (λ x. x < n) xs → filter (λ x. not (x == n)) (xs ++ n ∷ []) ≡ xs
taken_again [] n below = rw (eq-eqb n n refl) refl
taken_again (x ∷ xs) n below =
    let m = below.0 in
    rw (ne_eqb x n (omega (arith, m))) (ap (λ ys. x ∷ ys) (taken_again xs n below.1))
