-- The innermost bracket stands last in the code and first in the definitions.
use Rattle.std.proofs.Common.{◌≡◌, Bool, true, false, List, [], ◌∷◌, ◌++◌, Option, Some, None, option_map, option_and_then, reverse, refl}
use Rattle.std.specs.Prelude.{if◌then◌else◌}
use Rattle.std.proofs.lemmas.List.{reverse-append}
use Rattle.model_text.specs.Words.{Lexeme, is_sign}
use Rattle.algorithm_reading.specs.Operands.{Operand}
use Rattle.algorithm_reading.specs.Pending.{no_loose}
use Rattle.algorithm_reading.specs.Reader.{Bracket, Open, TermProgress, AtNot, BehindOperand, reading}
use Rattle.algorithm_reading.specs.Ends.{parted, at_comma, closing, whole, at_closing}
use Rattle.script_term_reader.specs.Closed.{parted_open, closed}

pub reverse-push : {A : Type 0} (xs : List A) (last : A) → reverse (xs ++ last ∷ []) ≡ last ∷ reverse xs
reverse-push xs last = reverse-append xs (last ∷ [])

-- behind a comma the innermost bracket holds one more
comma-cases : (o : Open) (opened : List Open) (found : Option Bracket)
    → option_and_then (λ bracket. reading (AtNot no_loose) (record o { bracket = bracket } ∷ opened)) found
    ≡ option_and_then (λ (innermost : Open). reading (AtNot no_loose) (innermost ∷ opened)) (option_map (λ bracket. record o { bracket = bracket }) found)
comma-cases o opened None = refl
comma-cases o opened (Some bracket) = refl

pub at_comma-parted_open : (progress : TermProgress) (o : Open) (opened : List Open) → at_comma progress (o ∷ opened)
    ≡ option_and_then (λ innermost. reading (AtNot no_loose) (innermost ∷ opened)) (parted_open o progress)
at_comma-parted_open progress o opened = comma-cases o opened (parted o.bracket progress)

-- behind a closing bracket it is gone
closing-cases : (fits : Bool) (o : Open) (opened : List Open) (found : Option Operand)
    → (if fits then option_and_then (λ operand. reading (BehindOperand o.loose o.tight operand) opened) found else None)
    ≡ option_and_then (λ progress. reading progress opened) (if fits then option_map (λ operand. BehindOperand o.loose o.tight operand) found else None)
closing-cases true o opened None = refl
closing-cases true o opened (Some operand) = refl
closing-cases false o opened found = refl

pub at_closing-closed : (lexeme : Lexeme) (progress : TermProgress) (o : Open) (opened : List Open) → at_closing lexeme progress (o ∷ opened)
    ≡ option_and_then (λ behind. reading behind opened) (closed lexeme progress o)
at_closing-closed lexeme progress o opened = closing-cases (is_sign (closing o.bracket) lexeme) o opened (whole o.bracket progress)
