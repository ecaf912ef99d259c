-- The longest front of a list whose items pass a test.
use Rattle.std.proofs.Common.{◌≡◌, ℕ, Bool, true, false, cond, List, [], ◌∷◌, ◌++◌, refl, ap, ◌∙◌}
use Rattle.std.specs.List.{list_all, take_while}
use Rattle.std.proofs.lemmas.List.Sums.{take_while-cons}
use Rattle.std.proofs.lemmas.Bool.{and_parts, and_from}
use Rattle.model_text.specs.Cuts.{FirstIs}

pub take_while-none : (p : ℕ → Bool) (xs : List ℕ) → FirstIs p false xs → take_while p xs ≡ []
take_while-none p [] h = refl
take_while-none p (x ∷ xs) h = take_while-cons p x xs ∙ rw h refl

pub take_while-cons_passes : (p : ℕ → Bool) (x : ℕ) (xs : List ℕ) → p x ≡ true → take_while p (x ∷ xs) ≡ x ∷ take_while p xs
take_while-cons_passes p x xs h = take_while-cons p x xs ∙ rw h refl

-- a run is found whole, where what follows it doesn't go on
pub take_while-run : (p : ℕ → Bool) (run xs : List ℕ) → list_all p run ≡ true → FirstIs p false xs → take_while p (run ++ xs) ≡ run
take_while-run p [] xs all stop = take_while-none p xs stop
take_while-run p (x ∷ run) xs all stop =
    let parts = and_parts (p x) (list_all p run) all in
    take_while-cons p x (run ++ xs) ∙ rw parts.0 (ap (λ others. x ∷ others) (take_while-run p run xs parts.1 stop))

-- a list is its longest front that passes, and a rest that doesn't go on
pub record LongestRun (p : ℕ → Bool) (xs run : List ℕ) : Type 0 where
  pub rest : List ℕ
  pub whole : xs ≡ run ++ rest
  pub passes : list_all p run ≡ true
  pub stops : FirstIs p false rest

pub one_more : (p : ℕ → Bool) (x : ℕ) (xs run : List ℕ) → p x ≡ true → LongestRun p xs run → LongestRun p (x ∷ xs) (x ∷ run)
one_more p x xs run passes r = record {
  rest = r.rest;
  whole = ap (λ others. x ∷ others) r.whole;
  passes = and_from (p x) (list_all p run) passes r.passes;
  stops = r.stops;
}

by_test : (p : ℕ → Bool) (x : ℕ) (xs : List ℕ) (b : Bool) → p x ≡ b → LongestRun p xs (take_while p xs)
    → LongestRun p (x ∷ xs) (cond b (x ∷ take_while p xs) [])
by_test p x xs true e r = one_more p x xs (take_while p xs) e r
by_test p x xs false e r = record { rest = x ∷ xs; whole = refl; passes = refl; stops = e }

pub run_of : (p : ℕ → Bool) (xs : List ℕ) → LongestRun p xs (take_while p xs)
run_of p [] = record { rest = []; whole = refl; passes = refl; stops = tt }
run_of p (x ∷ xs) = rw (take_while-cons p x xs) (by_test p x xs (p x) refl (run_of p xs))
