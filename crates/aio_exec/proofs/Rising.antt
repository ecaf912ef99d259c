-- Entries by rising numbers.
use Rattle.std.proofs.Common.{◌≡◌, ℕ, ◌+◌, ◌<◌, ◌≤◌, ◌⊎◌, Bool, true, false, cond, List, [], ◌∷◌, ◌++◌, Some, None, map}
use Rattle.std.proofs.Common.{refl, ap, sym, inl, inr, arith}
use Rattle.std.specs.Prelude.{◌==◌}
use Rattle.std.specs.BTreeMap.{insert_entry, is_at}
use Rattle.std.specs.List.{AllByRecursion as Each}
use Rattle.std.specs.Map.{lookup, remove_entry, set_value}
use Rattle.std.specs.Option.{option_map}
use Rattle.std.specs.Ordering.{nat_cmp}
use Rattle.std.specs.declared.cmp.Ordering.TheVariants.{Less, Equal, Greater}
use Rattle.std.proofs.lemmas.Bool.{cases_lt, lt-ltb, le-ltb, eq-eqb, ne_eqb}
use Rattle.model_exec.specs.Execed.{is_number}

less : (a b : ℕ) → a < b → nat_cmp a b ≡ Less
less a b l = rw (lt-ltb a b l) refl

equal : (a b : ℕ) → a ≡ b → nat_cmp a b ≡ Equal
equal a b e = rw (le-ltb a b (omega arith), eq-eqb a b e) refl

greater : (a b : ℕ) → b < a → nat_cmp a b ≡ Greater
greater a b l = rw (le-ltb a b (omega arith), ne_eqb a b (omega arith)) refl

pub at_equal : (a b : ℕ) → is_at (nat_cmp a) b ≡ (b == a)
at_equal a b = go (cases_lt a b) (cases_lt b a)
  where
    go : (a < b) ⊎ (b ≤ a) → (b < a) ⊎ (a ≤ b) → is_at (nat_cmp a) b ≡ (b == a)
    go (inl l) _ = rw (less a b l, ne_eqb b a (omega arith)) refl
    go (inr l) (inl m) = rw (greater a b m, ne_eqb b a (omega arith)) refl
    go (inr l) (inr m) = let e : a ≡ b = omega arith in rw (equal a b e, eq-eqb b a (sym e)) refl

-- ---- entries
module _ {A B : Type 0} (to : A → B) where
  abbrev pub entry : ℕ × A → ℕ × B
  entry e = (e.0, to e.1)

  pub lookup_entry : (place : ℕ) (es : List (ℕ × A)) → lookup (is_number place) (map entry es) ≡ option_map to (lookup (is_at (nat_cmp place)) es)
  lookup_entry place [] = refl
  lookup_entry place (e ∷ es) = rw (at_equal place e.0) (at (lookup_entry place es) (e.0 == place))
    where
      at : lookup (is_number place) (map entry es) ≡ option_map to (lookup (is_at (nat_cmp place)) es) → (b : Bool)
          → cond b (Some (to e.1)) (lookup (is_number place) (map entry es)) ≡ option_map to (cond b (Some e.1) (lookup (is_at (nat_cmp place)) es))
      at rest true = refl
      at rest false = rest

  pub remove_entry_as : (place : ℕ) (es : List (ℕ × A))
      → map entry (remove_entry (is_at (nat_cmp place)) es) ≡ remove_entry (is_number place) (map entry es)
  remove_entry_as place [] = refl
  remove_entry_as place (e ∷ es) = rw (at_equal place e.0) (at (remove_entry_as place es) (e.0 == place))
    where
      at : map entry (remove_entry (is_at (nat_cmp place)) es) ≡ remove_entry (is_number place) (map entry es) → (b : Bool)
          → map entry (cond b es (e ∷ remove_entry (is_at (nat_cmp place)) es))
          ≡ cond b (map entry es) (entry e ∷ remove_entry (is_number place) (map entry es))
      at rest true = refl
      at rest false = ap (λ ys. entry e ∷ ys) rest

  pub set_entry_as : (place : ℕ) (it : A) (es : List (ℕ × A))
      → map entry (set_value (is_at (nat_cmp place)) es it) ≡ set_value (is_number place) (map entry es) (to it)
  set_entry_as place it [] = refl
  set_entry_as place it (e ∷ es) = rw (at_equal place e.0) (at (set_entry_as place it es) (e.0 == place))
    where
      at : map entry (set_value (is_at (nat_cmp place)) es it) ≡ set_value (is_number place) (map entry es) (to it) → (b : Bool)
          → map entry (cond b ((e.0, it) ∷ es) (e ∷ set_value (is_at (nat_cmp place)) es it))
          ≡ cond b ((e.0, to it) ∷ map entry es) (entry e ∷ set_value (is_number place) (map entry es) (to it))
      at rest true = refl
      at rest false = ap (λ ys. entry e ∷ ys) rest

  pub insert_entry_as : (n : ℕ) (it : A) (es : List (ℕ × A)) → Each (λ e. e.0 < n) es
      → map entry (insert_entry nat_cmp es n it) ≡ map entry es ++ (n, to it) ∷ []
  insert_entry_as n it [] below = refl
  insert_entry_as n it (e ∷ es) below = rw (greater n e.0 below.0) (ap (λ ys. entry e ∷ ys) (insert_entry_as n it es below.1))

-- ---- numbers below a bound
module _ {A : Type 0} where
  pub each_more : (n m : ℕ) → n ≤ m → (es : List (ℕ × A)) → Each (λ e. e.0 < n) es → Each (λ e. e.0 < m) es
  each_more n m le [] a = tt
  each_more n m le (e ∷ es) a = (let h = a.0 in omega (arith, h, le), each_more n m le es a.1)

  pub each_inserted : (n : ℕ) (it : A) (es : List (ℕ × A)) → Each (λ e. e.0 < n) es → Each (λ e. e.0 < n + 1) (insert_entry nat_cmp es n it)
  each_inserted n it [] below = (omega arith, tt)
  each_inserted n it (e ∷ es) below = rw (greater n e.0 below.0) ((let h = below.0 in omega (arith, h), each_inserted n it es below.1))

  pub each_removed : (n : ℕ) (test : ℕ → Bool) (es : List (ℕ × A)) → Each (λ e. e.0 < n) es → Each (λ e. e.0 < n) (remove_entry test es)
  each_removed n test [] a = tt
  each_removed n test (e ∷ es) a = at (each_removed n test es a.1) (test e.0)
    where
      at : Each (λ e. e.0 < n) (remove_entry test es) → (b : Bool) → Each (λ e. e.0 < n) (cond b es (e ∷ remove_entry test es))
      at rest true = a.1
      at rest false = (a.0, rest)

  pub each_replaced : (n : ℕ) (test : ℕ → Bool) (it : A) (es : List (ℕ × A)) → Each (λ e. e.0 < n) es → Each (λ e. e.0 < n) (set_value test es it)
  each_replaced n test it [] a = tt
  each_replaced n test it (e ∷ es) a = at (each_replaced n test it es a.1) (test e.0)
    where
      at : Each (λ e. e.0 < n) (set_value test es it) → (b : Bool) → Each (λ e. e.0 < n) (cond b ((e.0, it) ∷ es) (e ∷ set_value test es it))
      at rest true = a
      at rest false = (a.0, rest)

-- ---- what is there already, or isn't
module _ {A : Type 0} (test : ℕ → Bool) where
  pub set_none : (es : List (ℕ × A)) (it : A) → lookup test es ≡ None → set_value test es it ≡ es
  set_none [] it e = refl
  set_none (x ∷ es) it e = at (λ f. set_none es it f) (test x.0) e
    where
      at : (lookup test es ≡ None → set_value test es it ≡ es) → (b : Bool) → cond b (Some x.1) (lookup test es) ≡ None
          → cond b ((x.0, it) ∷ es) (x ∷ set_value test es it) ≡ x ∷ es
      at rest true e = absurd (cc)
      at rest false e = ap (λ ys. x ∷ ys) (rest e)

  pub removed_none : (es : List (ℕ × A)) → lookup test es ≡ None → remove_entry test es ≡ es
  removed_none [] e = refl
  removed_none (x ∷ es) e = at (λ f. removed_none es f) (test x.0) e
    where
      at : (lookup test es ≡ None → remove_entry test es ≡ es) → (b : Bool) → cond b (Some x.1) (lookup test es) ≡ None
          → cond b es (x ∷ remove_entry test es) ≡ x ∷ es
      at rest true e = absurd (cc)
      at rest false e = ap (λ ys. x ∷ ys) (rest e)

  pub set_there : (es : List (ℕ × A)) (it : A) → lookup test es ≡ Some it → set_value test es it ≡ es
  set_there [] it e = refl
  set_there (x ∷ es) it e = at (λ f. set_there es it f) (test x.0) e
    where
      same : (y it : A) → Some y ≡ Some it → y ≡ it
      same y it e = cc

      at : (lookup test es ≡ Some it → set_value test es it ≡ es) → (b : Bool) → cond b (Some x.1) (lookup test es) ≡ Some it
          → cond b ((x.0, it) ∷ es) (x ∷ set_value test es it) ≡ x ∷ es
      at rest true e = ap (λ y. (x.0, y) ∷ es) (sym (same x.1 it e))
      at rest false e = ap (λ ys. x ∷ ys) (rest e)
