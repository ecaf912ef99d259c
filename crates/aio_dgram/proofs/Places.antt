-- Entries by their places, and places that rise.
use Rattle.std.proofs.Common.{◌≡◌, ℕ, ◌<◌, Bool, true, false, cond, List, [], ◌∷◌, ◌++◌, Option, Some, None, map, refl, sym, ap, ◌∙◌}
use Rattle.std.proofs.Math.Path.{fun_ext}
use Rattle.std.specs.BTreeMap.{insert_entry, is_at}
use Rattle.std.specs.List.{AllByRecursion as Each}
use Rattle.std.specs.Map.{lookup, remove_entry, set_value}
use Rattle.std.specs.Ordering.{nat_cmp}
use Rattle.model_sync.specs.Synced.{is_place}
use Rattle.aio_sync.proofs.Rising.{at_equal, entry, insert_entry_as}

-- the test by which a map in code finds a place
pub same_test : (place : ℕ) → is_at (nat_cmp place) ≡ is_place place
same_test place = fun_ext (at_equal place)

module _ {A : Type 0} (es : List (ℕ × A)) (place : ℕ) where
  pub lookup_at : lookup (is_at (nat_cmp place)) es ≡ lookup (is_place place) es
  lookup_at = ap (λ (test : ℕ → Bool). lookup test es) (same_test place)

  pub set_at : (it : A) → set_value (is_at (nat_cmp place)) es it ≡ set_value (is_place place) es it
  set_at it = ap (λ (test : ℕ → Bool). set_value test es it) (same_test place)

  pub remove_at : remove_entry (is_at (nat_cmp place)) es ≡ remove_entry (is_place place) es
  remove_at = ap (λ (test : ℕ → Bool). remove_entry test es) (same_test place)

  -- what a map in code answers is what the definitions find
  pub found : (o : Option A) → o ≡ lookup (is_at (nat_cmp place)) es → lookup (is_place place) es ≡ o
  found o e = sym lookup_at ∙ sym e

  pub is_found : (x y : A) → Some x ≡ lookup (is_at (nat_cmp place)) es → lookup (is_place place) es ≡ Some y → x ≡ y
  is_found x y e f = let g : Some x ≡ Some y = sym (found (Some x) e) ∙ f in cc

  pub is_lost : {T : Type 0} → (y : A) → None ≡ lookup (is_at (nat_cmp place)) es → lookup (is_place place) es ≡ Some y → T
  is_lost y e f = let g : None ≡ Some y = sym (found None e) ∙ f in absurd (cc)

-- one that is replaced by itself
pub set_same : {A : Type 0} (test : ℕ → Bool) (es : List (ℕ × A)) (it : A) → lookup test es ≡ Some it → set_value test es it ≡ es
set_same test [] it e = absurd (cc)
set_same {A} test (x ∷ es) it e = at (λ g. set_same test es it g) (test x.0) e
  where
    here : (y it : A) → Some y ≡ Some it → y ≡ it
    here y it e = cc

    at : (lookup test es ≡ Some it → set_value test es it ≡ es) → (b : Bool) → cond b (Some x.1) (lookup test es) ≡ Some it
        → cond b ((x.0, it) ∷ es) (x ∷ set_value test es it) ≡ x ∷ es
    at rest true e = ap (λ (y : A). (x.0, y) ∷ es) (sym (here x.1 it e))
    at rest false e = ap (λ ys. x ∷ ys) (rest e)

-- or twice
pub set_twice : {A : Type 0} (test : ℕ → Bool) (es : List (ℕ × A)) (a b : A) → set_value test (set_value test es a) b ≡ set_value test es b
set_twice test [] a b = refl
set_twice {A} test (x ∷ es) a b = at (set_twice test es a b) (test x.0) refl
  where
    at : set_value test (set_value test es a) b ≡ set_value test es b → (c : Bool) → test x.0 ≡ c
        → set_value test (cond c ((x.0, a) ∷ es) (x ∷ set_value test es a)) b ≡ cond c ((x.0, b) ∷ es) (x ∷ set_value test es b)
    at rest true is = ap (λ d. cond d ((x.0, b) ∷ es) ((x.0, a) ∷ set_value test es b)) is
    at rest false is = ap (λ d. cond d ((x.0, b) ∷ set_value test es a) (x ∷ set_value test (set_value test es a) b)) is ∙ ap (λ ys. x ∷ ys) rest

-- a greater place goes last
as_they_are : {A : Type 0} (es : List (ℕ × A)) → map (entry (λ (x : A). x)) es ≡ es
as_they_are [] = refl
as_they_are (x ∷ es) = ap (λ ys. x ∷ ys) (as_they_are es)

pub insert_at : {A : Type 0} (n : ℕ) (it : A) (es : List (ℕ × A)) → Each (λ e. e.0 < n) es → insert_entry nat_cmp es n it ≡ es ++ (n, it) ∷ []
insert_at {A} n it es below =
    sym (as_they_are (insert_entry nat_cmp es n it)) ∙ insert_entry_as (λ (x : A). x) n it es below ∙ ap (λ ys. ys ++ (n, it) ∷ []) (as_they_are es)
