-- Which piece stands at the front, case by case.
use Rattle.std.proofs.Common.{◌≡◌, ℕ, true, false, ◌&&◌, List, ◌∷◌, drop, refl, arith, eqb, slice_index}
use Rattle.std.proofs.lemmas.Bool.Decides.{nat_tests}
use Rattle.std.specs.List.{take_while}
use Rattle.std.specs.Char.{is_ascii_digit}
use Rattle.model_text.specs.Letters.{is_word, is_space, is_hash, is_quote}
use Rattle.model_text.specs.Symbols.{symbol_at}
use Rattle.model_text.specs.declared.literal.Literal.TheVariants.{OfText, OfBytes}
use Rattle.model_text.specs.Literals.{inside_of}
use Rattle.model_text.specs.Pieces.{Blank, Comment, Word, Numeral, piece_at, literal_at, punctuation_at}

-- a letter, a digit or _ is none of the bytes that begin something else
pub word-no_space : (byte : ℕ) → is_word byte ≡ true → is_space byte ≡ false
word-no_space byte h = grind (arith, nat_tests)

pub word-no_hash : (byte : ℕ) → is_word byte ≡ true → is_hash byte ≡ false
word-no_hash byte h = grind (arith, nat_tests)

pub word-no_quote : (byte : ℕ) → is_word byte ≡ true → is_quote byte ≡ false
word-no_quote byte h = grind (arith, nat_tests)

pub digit-word : (byte : ℕ) → is_ascii_digit byte ≡ true → is_word byte ≡ true
digit-word byte h = grind (arith, nat_tests)

pub digit-no_b : (byte : ℕ) → is_ascii_digit byte ≡ true → eqb byte 98 ≡ false
digit-no_b byte h = grind (arith, nat_tests)

pub no_word-no_digit : (byte : ℕ) → is_word byte ≡ false → is_ascii_digit byte ≡ false
no_word-no_digit byte h = grind (arith, nat_tests)

pub no_word-no_b : (byte : ℕ) → is_word byte ≡ false → eqb byte 98 ≡ false
no_word-no_b byte h = grind (arith, nat_tests)

-- the branches
pub piece_at-space : (byte : ℕ) (bytes : List ℕ) → is_space byte ≡ true → piece_at byte bytes ≡ Blank
unfolding piece_at
piece_at-space byte bytes s = rw s refl

pub piece_at-hash : (byte : ℕ) (bytes : List ℕ) → is_hash byte ≡ true → piece_at byte bytes ≡ Comment (byte ∷ bytes)
unfolding piece_at
piece_at-hash byte bytes h =
    let s : is_space byte ≡ false = grind (arith, nat_tests) in rw (s, h) refl

pub piece_at-quote : (byte : ℕ) (bytes : List ℕ) → is_quote byte ≡ true → piece_at byte bytes ≡ literal_at OfText bytes (inside_of false bytes)
unfolding piece_at
piece_at-quote byte bytes q =
    let s : is_space byte ≡ false = grind (arith, nat_tests) in
    let h : is_hash byte ≡ false = grind (arith, nat_tests) in
    rw (s, h, q) refl

pub piece_at-b : (byte : ℕ) (bytes : List ℕ) → eqb byte 98 ≡ true → is_quote (slice_index bytes 0) ≡ true → piece_at byte bytes
    ≡ literal_at OfBytes (drop 1 bytes) (inside_of false (drop 1 bytes))
unfolding piece_at
piece_at-b byte bytes b n =
    let s : is_space byte ≡ false = grind (arith, nat_tests) in
    let h : is_hash byte ≡ false = grind (arith, nat_tests) in
    let q : is_quote byte ≡ false = grind (arith, nat_tests) in
    rw (s, h, q, b, n) refl

pub piece_at-digit : (byte : ℕ) (bytes : List ℕ) → is_ascii_digit byte ≡ true → piece_at byte bytes ≡ Numeral (take_while is_word (byte ∷ bytes))
unfolding piece_at
piece_at-digit byte bytes d =
    let w = digit-word byte d in
    let s = word-no_space byte w in
    let h = word-no_hash byte w in
    let q = word-no_quote byte w in
    let b = digit-no_b byte d in
    rw (s, h, q, b, d) refl

pub piece_at-word : (byte : ℕ) (bytes : List ℕ) → is_word byte ≡ true → is_ascii_digit byte ≡ false → (eqb byte 98 && is_quote (slice_index bytes 0)) ≡ false
    → piece_at byte bytes ≡ Word (take_while is_word (byte ∷ bytes))
unfolding piece_at
piece_at-word byte bytes w d n =
    let s = word-no_space byte w in
    let h = word-no_hash byte w in
    let q = word-no_quote byte w in
    rw (s, h, q, n, w, d) refl

pub piece_at-other : (byte : ℕ) (bytes : List ℕ) → is_space byte ≡ false → is_hash byte ≡ false → is_quote byte ≡ false → is_word byte ≡ false
    → piece_at byte bytes ≡ punctuation_at byte (symbol_at (byte ∷ bytes))
unfolding piece_at
piece_at-other byte bytes s h q w =
    let d = no_word-no_digit byte w in
    let b = no_word-no_b byte w in
    rw (s, h, q, b, w, d) refl
