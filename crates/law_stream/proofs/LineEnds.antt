-- Where the first line ends.
use Rattle.std.proofs.Common.{◌≡◌, ℕ, ◌+◌, ◌<◌, ◌≤◌, Bool, true, false, eqb, ltb, List, [], ◌∷◌, ◌++◌, Option, Some, None, length, drop, refl, ap, ◌∙◌, arith}
use Rattle.std.specs.List.{starts_with}
use Rattle.std.specs.Option.{option_map}
use Rattle.std.proofs.lemmas.Bool.Decides.{nat_tests}
use Rattle.model_stream.specs.Reading.{Reading, Take, take_line, line_at, unless_failed, first_at, newline, gives, removes, found_too_far}
use Rattle.law_stream.specs.ReaderSteps.{HoldsLine}

none_before : (place : Option ℕ) → option_map (λ at. at + 1) place ≡ None → place ≡ None
none_before None is = refl
none_before (Some at) is = absurd (let bad : ⊥ = cc in bad)

some_is_none : (place : Option ℕ) (at : ℕ) → place ≡ Some at → place ≡ None → ⊥
some_is_none place at found none = cc

found_behind :
    (byte : ℕ) (text rest : List ℕ) (begins : Bool) → starts_with eqb (byte ∷ text) newline ≡ begins
    → first_at newline (byte ∷ text) ≡ None
    → (first_at newline text ≡ None → first_at newline (text ++ 10 ∷ rest) ≡ Some (length text))
    → first_at newline (byte ∷ text ++ 10 ∷ rest) ≡ Some (length (byte ∷ text))
found_behind byte text rest true is none on =
    absurd (some_is_none (first_at newline (byte ∷ text)) 0 (rw is refl) none)
found_behind byte text rest false is none on =
    let later : option_map (λ at. at + 1) (first_at newline text) ≡ None = rw is at none in
    rw is (ap (option_map (λ at. at + 1)) (on (none_before (first_at newline text) later)) ∙ ap Some (omega arith))

line_found : (text rest : List ℕ) → first_at newline text ≡ None → first_at newline (text ++ 10 ∷ rest) ≡ Some (length text)
line_found [] rest none = refl
line_found (byte ∷ text) rest none =
    found_behind byte text rest (starts_with eqb (byte ∷ text) newline) refl none (λ behind. line_found text rest behind)

unfailed : (r : Reading) (other : Take) → r.failed ≡ None → unless_failed r other ≡ other
unfailed r other is = rw is refl

line_is : (text rest : List ℕ) (r : Reading) → HoldsLine text rest r → take_line r ≡ line_at (length text) r
line_is text rest r line =
    unfailed r _ line.not_failed
    ∙ (let found : first_at newline r.held ≡ Some (length text) = ap (first_at newline) line.held ∙ line_found text rest line.is_line in
    rw found refl)

line_within : (at : ℕ) (r : Reading) → at ≤ r.limit → line_at at r ≡ gives (at + 1) r.held
line_within at r within = let e : ltb r.limit at ≡ false = grind (arith, nat_tests) in rw e refl

line_over : (at : ℕ) (r : Reading) → r.limit < at → line_at at r ≡ removes found_too_far (drop (at + 1) r.held)
line_over at r over = let e : ltb r.limit at ≡ true = grind (arith, nat_tests) in rw e refl

pub line_fits : (text rest : List ℕ) (r : Reading) → HoldsLine text rest r → length text ≤ r.limit → take_line r ≡ gives (length text + 1) r.held
line_fits text rest r line within = line_is text rest r line ∙ line_within (length text) r within

pub line_is_too_long :
    (text rest : List ℕ) (r : Reading) → HoldsLine text rest r → r.limit < length text
    → take_line r ≡ removes found_too_far (drop (length text + 1) r.held)
line_is_too_long text rest r line over = line_is text rest r line ∙ line_over (length text) r over
