-- A number that is too great stays so, whatever digits follow.
use Rattle.std.proofs.Common.{◌≡◌, ℕ, ◌+◌, ◌-◌, ◌*◌, ◌^◌, ◌<◌, ◌≤◌, false, List, [], ◌∷◌, length, take, drop, get_or, sym, ap, ◌∙◌, arith, nat_lt}
use Rattle.std.specs.List.{fold, list_all}
use Rattle.std.specs.Char.{is_ascii_digit}
use Rattle.std.proofs.lemmas.List.{take-append-drop}
use Rattle.std.proofs.lemmas.List.Sums.{fold-append, fold_more}
use Rattle.std.proofs.lemmas.Bool.{and_right, le-ltb}
use Rattle.model_text.specs.Tokens.{number_of, is_number}

abbrev with_digit : ℕ → ℕ → ℕ
with_digit number digit = 10 * number + (digit - 48)

grows : (digits : List ℕ) (number : ℕ) → number ≤ fold with_digit number digits
grows [] number = omega arith
grows (digit ∷ digits) number = omega (arith, grows digits (with_digit number digit))

-- the number of a front is no greater than that of the whole
front_number : (n : ℕ) (text : List ℕ) → number_of (take n text) ≤ number_of text
front_number n text =
    let whole = sym (fold-append with_digit 0 (take n text) (drop n text)) ∙ ap number_of (take-append-drop n text) in
    omega (arith, grows (drop n text) (number_of (take n text)))

-- with the next digit the number is at least ten times as great
pub too_great : (i : ℕ) (text : List ℕ) → i < length text → 2 ^ 63 ≤ 10 * number_of (take i text) + (get_or text i 0 - 48) → is_number text ≡ false
too_great i text within great =
    let next = fold_more with_digit 0 text i 0 within in
    and_right (list_all is_ascii_digit text) (nat_lt (number_of text) (2 ^ 63)) (le-ltb (number_of text) (2 ^ 63) (omega (arith, front_number (i + 1) text)))
