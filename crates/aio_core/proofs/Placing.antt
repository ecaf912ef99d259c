-- Main's place in a program.
use Rattle.std.proofs.Common.{◌≡◌, ℕ, zero, suc, ◌+◌, true, false, List, [], ◌∷◌, Some, length, drop, slice_get, if◌then◌else◌, ◌∙◌, refl, ap, arith}
use Rattle.std.specs.Str.{bytes_eq}
use Rattle.model_tree.specs.Syntax.{Coroutine}
use Rattle.model_says.specs.Requests.{place_among}

-- so many were passed, and none of them is it
abbrev pub Passed : List Coroutine → List ℕ → ℕ → Type 0
Passed coroutines name at = place_among coroutines name ≡ at + place_among (drop at coroutines) name

pub passed_none : (coroutines : List Coroutine) (name : List ℕ) → Passed coroutines name 0
passed_none coroutines name = none (place_among coroutines name)
  where
    none : (n : ℕ) → n ≡ 0 + n
    none n = omega arith

front : (name : List ℕ) (coroutines : List Coroutine) (at : ℕ) (it : Coroutine) → slice_get coroutines at ≡ Some it
    → place_among (drop at coroutines) name ≡ (if bytes_eq it.name name then 0 else suc (place_among (drop (suc at) coroutines) name))
front name [] at it e = absurd (cc)
front name (first ∷ others) zero it e =
    let same : first ≡ it = cc in
    ap (λ (c : Coroutine). if bytes_eq c.name name then 0 else suc (place_among others name)) same
front name (first ∷ others) (suc at) it e = front name others at it e

pub passed_more : (coroutines : List Coroutine) (name : List ℕ) (at : ℕ) (it : Coroutine) → slice_get coroutines at ≡ Some it
    → bytes_eq it.name name ≡ false → Passed coroutines name at → Passed coroutines name (suc at)
passed_more coroutines name at it found other passed =
    let one = front name coroutines at it found ∙ ap (λ b. if b then 0 else suc (place_among (drop (suc at) coroutines) name)) other in
    omega (arith, passed, one)

pub passed_found : (coroutines : List Coroutine) (name : List ℕ) (at : ℕ) (it : Coroutine) → slice_get coroutines at ≡ Some it
    → bytes_eq it.name name ≡ true → Passed coroutines name at → at ≡ place_among coroutines name
passed_found coroutines name at it found same passed =
    let one = front name coroutines at it found ∙ ap (λ b. if b then 0 else suc (place_among (drop (suc at) coroutines) name)) same in
    omega (arith, passed, one)

none_behind : (name : List ℕ) (coroutines : List Coroutine) → place_among (drop (length coroutines) coroutines) name ≡ 0
none_behind name [] = refl
none_behind name (first ∷ others) = none_behind name others

pub passed_all : (coroutines : List Coroutine) (name : List ℕ) → Passed coroutines name (length coroutines)
    → length coroutines ≡ place_among coroutines name
passed_all coroutines name passed =
    let none = none_behind name coroutines in
    omega (arith, passed, none)
