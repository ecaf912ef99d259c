-- No byte of a literal closes it but the last.
use Rattle.std.proofs.Common.{◌≡◌, ℕ, false, List, [], ◌∷◌, ◌++◌, Some, refl, ◌∙◌, arith, append_assoc}
use Rattle.std.proofs.lemmas.Bool.Decides.{nat_tests}
use Rattle.model_value.specs.declared.place.Place.TheVariants.{InText, InBytes}
use Rattle.model_value.specs.Escapes.{escaped, escaped_byte, hex_digit}
use Rattle.law_value.specs.Endings.{behind_quote}

hex_digit_stays : (d : ℕ) (rest : List ℕ) → behind_quote false (hex_digit d ∷ rest) ≡ behind_quote false rest
hex_digit_stays d rest = grind (arith, nat_tests)

text_byte_stays : (b : ℕ) (rest : List ℕ) → behind_quote false (escaped_byte InText b ++ rest) ≡ behind_quote false rest
text_byte_stays b rest = grind (arith, nat_tests, hex_digit_stays)

bytes_byte_stays : (b : ℕ) (rest : List ℕ) → behind_quote false (escaped_byte InBytes b ++ rest) ≡ behind_quote false rest
bytes_byte_stays b rest = grind (arith, nat_tests, hex_digit_stays)

pub text_ends : (bytes rest : List ℕ) → behind_quote false (escaped InText bytes ++ 34 ∷ rest) ≡ Some rest
text_ends [] rest = refl
text_ends (b ∷ bs) rest = rw append_assoc (text_byte_stays b (escaped InText bs ++ 34 ∷ rest) ∙ text_ends bs rest)

pub bytes_end : (bytes rest : List ℕ) → behind_quote false (escaped InBytes bytes ++ 34 ∷ rest) ≡ Some rest
bytes_end [] rest = refl
bytes_end (b ∷ bs) rest = rw append_assoc (bytes_byte_stays b (escaped InBytes bs ++ 34 ∷ rest) ∙ bytes_end bs rest)
