-- Names and texts are ASCII.
use Rattle.std.proofs.Common.{◌≡◌, ℕ, ◌<◌, true, List, [], ◌∷◌, Ok, arith}
use Rattle.std.specs.List.{take_while, list_all, AllByRecursion}
use Rattle.std.specs.Str.{IsAscii, IsUtf8}
use Rattle.std.proofs.lemmas.Str.{IsUtf8-from_ascii}
use Rattle.std.proofs.lemmas.Str.Ascii.{IsAscii-nil, IsAscii-cons}
use Rattle.std.proofs.lemmas.Bool.{and_parts}
use Rattle.std.proofs.lemmas.Bool.Decides.{nat_tests}
use Rattle.model_text.specs.Letters.{is_word}
use Rattle.model_text.specs.declared.literal.Literal.{Literal}
use Rattle.model_text.specs.declared.literal.Literal.TheVariants.{OfText}
use Rattle.model_text.specs.Literals.{parts_of, literal_bytes}
use Rattle.law_tokens.proofs.RunLemmas.{run_of}
use Rattle.law_tokens.proofs.PartLemmas.{Says-literal_bytes}
use Rattle.law_tokens.proofs.RangeLemmas.{says_small}

pub IsAscii-below : (bytes : List ℕ) → AllByRecursion (λ byte. byte < 128) bytes → IsAscii bytes
IsAscii-below [] all = IsAscii-nil
IsAscii-below (byte ∷ bytes) all = IsAscii-cons byte bytes all.0 (IsAscii-below bytes all.1)

word_small : (byte : ℕ) → is_word byte ≡ true → byte < 128
word_small byte h = grind (arith, nat_tests)

words_ascii : (bytes : List ℕ) → list_all is_word bytes ≡ true → IsAscii bytes
words_ascii [] all = IsAscii-nil
words_ascii (byte ∷ bytes) all =
    let p = and_parts (is_word byte) (list_all is_word bytes) all in
    IsAscii-cons byte bytes (word_small byte p.0) (words_ascii bytes p.1)

pub IsAscii-word : (bytes : List ℕ) → IsAscii (take_while is_word bytes)
IsAscii-word bytes = words_ascii (take_while is_word bytes) (run_of is_word bytes).passes

-- what a text says is UTF-8
pub IsUtf8-text : (literal : Literal) (column : ℕ) (inside bytes : List ℕ) → literal ≡ OfText → literal_bytes literal column (parts_of inside) ≡ Ok bytes
    → IsUtf8 bytes
IsUtf8-text literal column inside bytes text e =
    let says = Says-literal_bytes OfText column inside bytes (rw text at e) in
    IsUtf8-from_ascii bytes (IsAscii-below bytes (says_small OfText bytes inside says))
