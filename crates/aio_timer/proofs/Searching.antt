-- What a search by number finds where numbers rise.
use Rattle.std.proofs.Common.{◌≡◌, ℕ, zero, suc, ◌+◌, ◌<◌, ◌≤◌, ◌⊎◌, List, [], ◌∷◌, length, get_or, Ok, Err, sym, ap, subst, inl, inr, arith}
use Rattle.std.specs.List.{Contains}
use Rattle.std.specs.List.Sorted.{IsBinarySearchResult, IsNonDecreasingBy}
use Rattle.std.specs.Ordering.{nat_cmp, ordering_index}
use Rattle.std.proofs.lemmas.Bool.{cases_eq, cases_lt}
use Rattle.std.proofs.lemmas.Bool.Decides.{nat_tests}
use Rattle.std.proofs.lemmas.Cmp.{ranked}
use Rattle.std.proofs.lemmas.List.Elements.{Contains-get_or}
use Rattle.aio_timer.specs.Kept.{AreRising, NoneAt}
use Rattle.aio_timer.proofs.Waiting.{rising_above}

rising_at : (first : ℕ) (xs : List (ℕ × ℕ)) → AreRising first xs → (i j : ℕ) (d : ℕ × ℕ) → i < j → j < length xs
    → (get_or xs i d).0 < (get_or xs j d).0
rising_at first [] r i j d l m = absurd (omega arith)
rising_at first (x ∷ xs) r i zero d l m = absurd (omega arith)
rising_at first (x ∷ xs) r zero (suc j) d l m =
    let over : x.0 + 1 ≤ (get_or xs j d).0 = rising_above (x.0 + 1) xs (get_or xs j d) r.1 (Contains-get_or xs j d (omega arith)) in
    omega arith
rising_at first (x ∷ xs) r (suc i) (suc j) d l m = rising_at (x.0 + 1) xs r.1 i j d (omega arith) (omega arith)

module _ (xs : List (ℕ × ℕ)) (rising : AreRising 0 xs) (number : ℕ) where
  comparisons_rise : IsNonDecreasingBy (λ (pair : ℕ × ℕ). ordering_index (nat_cmp pair.0 number)) xs
  comparisons_rise = λ i j d le in_range. go i j d le in_range (cases_eq i j)
    where
      go : (i j : ℕ) (d : ℕ × ℕ) → i ≤ j → j < length xs → (i ≡ j) ⊎ (i ≡ j → ⊥)
          → ordering_index (nat_cmp (get_or xs i d).0 number) ≤ ordering_index (nat_cmp (get_or xs j d).0 number)
      go i j d le in_range (inl same) =
          let e : (get_or xs i d).0 ≡ (get_or xs j d).0 = ap (λ (k : ℕ). (get_or xs k d).0) same in
          rw e (omega arith)
      go i j d le in_range (inr differs) =
          let l : i < j = omega (arith, differs) in
          let keys : (get_or xs i d).0 < (get_or xs j d).0 = rising_at 0 xs rising i j d l in_range in
          grind (arith, nat_tests)

  pub none_found : (at : ℕ) → at ≤ length xs → IsBinarySearchResult (λ (pair : ℕ × ℕ). nat_cmp pair.0 number) xs (Err at) → NoneAt number xs
  none_found at within parted slot among = go (cases_lt among.0 at)
    where
      here : (get_or xs among.0 (number, slot)).0 ≡ number
      here = ap (λ (pair : ℕ × ℕ). pair.0) among.2

      go : (among.0 < at) ⊎ (at ≤ among.0) → ⊥
      go (inl l) =
          let m : (get_or xs among.0 (number, slot)).0 < number =
          ranked _ number _ (sym ((parted comparisons_rise).0 among.0 (number, slot) (omega (arith, among.1)) l)) in
          omega (arith, here)
      go (inr l) =
          let m : number < (get_or xs among.0 (number, slot)).0 =
          ranked _ number _ (sym ((parted comparisons_rise).1 among.0 (number, slot) l among.1)) in
          omega (arith, here)

-- the pair of the number
pub found_at : (xs : List (ℕ × ℕ)) (number at : ℕ) (d : ℕ × ℕ) → at < length xs
    → IsBinarySearchResult (λ (pair : ℕ × ℕ). nat_cmp pair.0 number) xs (Ok at) → Contains xs (number, (get_or xs at d).1)
found_at xs number at d within equal =
    let same : (get_or xs at d).0 ≡ number = ranked _ number _ (sym (equal d)) in
    let is : get_or xs at d ≡ (number, (get_or xs at d).1) = ap (λ (n : ℕ). (n, (get_or xs at d).1)) same in
    subst (Contains xs) is (Contains-get_or xs at d within)
