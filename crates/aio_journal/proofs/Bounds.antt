-- No word is a number that doesn't fit 64 bits with a sign.
use Rattle.std.proofs.Common.{◌≡◌, ℕ, ◌+◌, ◌≤◌, Bool, true, false, List, [], ◌∷◌, drop, Option, Some, None, Result, Ok, Err, refl, arith, nat_le, if◌then◌else◌}
use Rattle.std.specs.Prelude.{slice_index, find, ◌==◌, ◌&&◌}
use Rattle.std.specs.Str.{bytes_eq}
use Rattle.std.proofs.lemmas.Bool.Decides.{nat_tests}
use Rattle.model_value.specs.Number.{is_digit, digits_value, most}
use Rattle.model_text.specs.declared.literal.Literal.TheVariants.{OfBytes}
use Rattle.model_text.specs.Faults.{TokenFault}
use Rattle.model_text.specs.Letters.{is_quote}
use Rattle.model_text.specs.Literals.{inside_of, parts_of, literal_bytes}
use Rattle.model_wire.specs.declared.entry.EntryWord.{EntryWord}
use Rattle.model_wire.specs.declared.entry.IdLetter.{IdLetter}
use Rattle.model_wire.specs.declared.entry.IdLetter.TheVariants as letter
use Rattle.model_wire.specs.declared.entry.EntryToken.TheVariants as token
use Rattle.model_wire.specs.JournalText.{EntryToken, are_digits, number_token, minus_token, id_token, bytes_or_other, literal_token, word_or_other, token_of}
use Rattle.model_wire.specs.JournalText.{word_token, entry_word_text, entry_words}
use Rattle.aio_journal.specs.Words.{Fits64}

by-if : (b : Bool) (x y : EntryToken) → (b ≡ true → Fits64 x) → (b ≡ false → Fits64 y) → Fits64 (if b then x else y)
by-if true x y a b = a refl
by-if false x y a b = b refl

le-of : (m n : ℕ) → nat_le m n ≡ true → m ≤ n
le-of m n h = grind (arith, nat_tests)

number-fits : (digits : List ℕ) → Fits64 (number_token digits)
number-fits digits =
    by-if (are_digits digits) _ token.Other
    (λ a. by-if (nat_le (digits_value digits) most) (token.Number (digits_value digits)) token.TooWide (λ h. le-of (digits_value digits) most h) (λ h. tt))
    (λ a. tt)

minus-fits : (digits : List ℕ) → Fits64 (minus_token digits)
minus-fits digits =
    by-if (are_digits digits) _ token.Other
    (λ a. by-if (nat_le (digits_value digits) (most + 1)) (token.Minus (digits_value digits)) token.TooWide (λ h. le-of (digits_value digits) (most + 1) h)
    (λ h. tt))
    (λ a. tt)

id-fits : (names : IdLetter) (digits : List ℕ) → Fits64 (id_token names digits)
id-fits names digits = by-if _ (token.Id names (digits_value digits)) token.Other (λ a. tt) (λ a. tt)

decoded-fits : (bytes : Result (List ℕ) TokenFault) → Fits64 (bytes_or_other bytes)
decoded-fits (Ok bytes) = tt
decoded-fits (Err fault) = tt

literal-fits : (bytes : List ℕ) (inside : Option (List ℕ)) → Fits64 (literal_token bytes inside)
literal-fits bytes None = tt
literal-fits bytes (Some inside) =
    by-if _ (bytes_or_other (literal_bytes OfBytes 0 (parts_of inside))) token.Other (λ a. decoded-fits (literal_bytes OfBytes 0 (parts_of inside))) (λ a. tt)

known-fits : (known : Option EntryWord) → Fits64 (word_or_other known)
known-fits None = tt
known-fits (Some known) = tt

pub token-fits : (word : List ℕ) → Fits64 (token_of word)
token-fits [] = tt
token-fits (byte ∷ bytes) =
    let known = word_token (byte ∷ bytes) in
    let literal = if byte == 98 && is_quote (slice_index bytes 0) then literal_token (drop 1 bytes) (inside_of false (drop 1 bytes)) else known in
    let child = if byte == 80 then id_token letter.Child bytes else literal in
    let conn = if byte == 67 then id_token letter.Conn bytes else child in
    let server = if byte == 76 then id_token letter.Server bytes else conn in
    let minus = if byte == 45 then minus_token bytes else server in
    by-if (is_digit byte) (number_token (byte ∷ bytes)) minus (λ a. number-fits (byte ∷ bytes))
    (λ a. by-if (byte == 45) (minus_token bytes) server (λ b. minus-fits bytes)
    (λ b. by-if (byte == 76) (id_token letter.Server bytes) conn (λ d. id-fits letter.Server bytes)
    (λ d. by-if (byte == 67) (id_token letter.Conn bytes) child (λ e. id-fits letter.Conn bytes)
    (λ e. by-if (byte == 80) (id_token letter.Child bytes) literal (λ f. id-fits letter.Child bytes)
    (λ f. by-if (byte == 98 && is_quote (slice_index bytes 0)) (literal_token (drop 1 bytes) (inside_of false (drop 1 bytes))) known
    (λ g. literal-fits (drop 1 bytes) (inside_of false (drop 1 bytes)))
    (λ g. known-fits (find (λ word. bytes_eq (entry_word_text word) (byte ∷ bytes)) entry_words)))))))
