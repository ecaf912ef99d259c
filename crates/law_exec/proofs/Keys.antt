-- Keys: the next one wasn't drawn, and those that were stay so.
use Rattle.std.proofs.Common.{◌≡◌, ℕ, ◌+◌, ◌≤◌, true, false, refl, ap, ◌∙◌, arith}
use Rattle.std.specs.Prelude.{◌%◌, ◌&&◌, ◌==◌, nat_lt, if◌then◌else◌}
use Rattle.std.proofs.lemmas.Bool.{and_from, and_parts, eq-eqb, eqb-true, le-ltb, lt-ltb, ltb-true}
use Rattle.model_reach.specs.Part.{key_at, place_of, was_drawn}
use Rattle.model_reach.specs.Reach.{OfGather, OfSync, OfExec, OfDgram}
use Rattle.model_exec.specs.Execed.{exec_part}
use Rattle.model_exec.specs.Serving.{exec_means}
use Rattle.law_parted.specs.Keys.{HasKeysOf}

place_at : (place : ℕ) → place_of exec_part (key_at exec_part place) ≡ place
place_at place = omega arith

pub undrawn : (drawn : ℕ) → was_drawn exec_part drawn (key_at exec_part drawn) ≡ false
undrawn drawn =
    ap (λ n. nat_lt n drawn && (key_at exec_part n == key_at exec_part drawn)) (place_at drawn)
    ∙ ap (λ b. b && (key_at exec_part drawn == key_at exec_part drawn)) (le-ltb drawn drawn (omega arith))

pub drawn_now : (drawn : ℕ) → was_drawn exec_part (drawn + 1) (key_at exec_part drawn) ≡ true
drawn_now drawn =
    ap (λ n. nat_lt n (drawn + 1) && (key_at exec_part n == key_at exec_part drawn)) (place_at drawn)
    ∙ and_from _ _ (lt-ltb drawn (drawn + 1) (omega arith)) (eq-eqb (key_at exec_part drawn) (key_at exec_part drawn) refl)

pub drawn_still : (drawn more key : ℕ) → drawn ≤ more → was_drawn exec_part drawn key ≡ true → was_drawn exec_part more key ≡ true
drawn_still drawn more key le h =
    let b = and_parts (nat_lt (place_of exec_part key) drawn) (key_at exec_part (place_of exec_part key) == key) h in
    let w = ltb-true (place_of exec_part key) drawn b.0 in
    and_from _ _ (lt-ltb (place_of exec_part key) more (omega (arith, w, le))) b.1

-- each is of the part's number
pub of_exec : HasKeysOf OfExec exec_means
of_exec kept key h =
    let b = and_parts (nat_lt (place_of exec_part key) kept.drawn) (key_at exec_part (place_of exec_part key) == key) h in
    let e : key_at exec_part (place_of exec_part key) ≡ key = eqb-true (key_at exec_part (place_of exec_part key)) key b.1 in
    let two : key % 4 ≡ 2 = omega (arith, e) in
    ap (λ n. if n == 0 then OfGather else (if n == 1 then OfSync else (if n == 2 then OfExec else OfDgram))) two
