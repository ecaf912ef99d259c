-- Keys of a part: the next one wasn't drawn, and those that were stay so.
use Rattle.std.proofs.Common.{◌≡◌, ℕ, ◌<◌, ◌≤◌, true, false, length, refl, ap, ◌∙◌, arith}
use Rattle.std.specs.Prelude.{◌%◌, ◌&&◌, ◌==◌, nat_lt, if◌then◌else◌}
use Rattle.std.proofs.lemmas.Bool.{and_from, and_parts, eq-eqb, eqb-true, le-ltb, lt-ltb, ltb-true}
use Rattle.model_reach.specs.Part.{key_at, place_of, was_drawn}
use Rattle.model_reach.specs.Reach.{OfGather, OfSync, OfExec, OfDgram}
use Rattle.model_gather.specs.Gathered.{gather_part}
use Rattle.model_gather.specs.Serving.{gather_means}
use Rattle.law_parted.specs.Keys.{HasKeysOf}

pub place_at : (part place : ℕ) → place_of part (key_at part place) ≡ place
place_at part place = omega arith

pub undrawn : (part drawn : ℕ) → was_drawn part drawn (key_at part drawn) ≡ false
undrawn part drawn =
    ap (λ n. nat_lt n drawn && (key_at part n == key_at part drawn)) (place_at part drawn)
    ∙ ap (λ b. b && (key_at part drawn == key_at part drawn)) (le-ltb drawn drawn (omega arith))

pub drawn_now : (part drawn more : ℕ) → drawn < more → was_drawn part more (key_at part drawn) ≡ true
drawn_now part drawn more h =
    ap (λ n. nat_lt n more && (key_at part n == key_at part drawn)) (place_at part drawn)
    ∙ and_from _ _ (lt-ltb drawn more h) (eq-eqb (key_at part drawn) (key_at part drawn) refl)

pub drawn_still : (part drawn more key : ℕ) → drawn ≤ more → was_drawn part drawn key ≡ true → was_drawn part more key ≡ true
drawn_still part drawn more key le h =
    let b = and_parts (nat_lt (place_of part key) drawn) (key_at part (place_of part key) == key) h in
    let w = ltb-true (place_of part key) drawn b.0 in
    and_from _ _ (lt-ltb (place_of part key) more (omega (arith, w, le))) b.1

-- each is of the part's number
pub of_gather : HasKeysOf OfGather gather_means
of_gather kept key h =
    let b = and_parts (nat_lt (place_of gather_part key) (length kept.drawn)) (key_at gather_part (place_of gather_part key) == key) h in
    let e : key_at gather_part (place_of gather_part key) ≡ key = eqb-true (key_at gather_part (place_of gather_part key)) key b.1 in
    let none : key % 4 ≡ 0 = omega (arith, e) in
    ap (λ is. if is then OfGather else (if key % 4 == 1 then OfSync else (if key % 4 == 2 then OfExec else OfDgram))) (eq-eqb (key % 4) 0 none)
