-- Which piece stands at the front of some bytes, by the first of them.
use Rattle.std.proofs.Common.{◌≡◌, ℕ, ◌<◌, true, false, ◌&&◌, List, [], ◌∷◌, length, drop, get_or, eqb, slice_index, arith}
use Rattle.std.specs.List.{take_while}
use Rattle.std.specs.Char.{is_ascii_digit}
use Rattle.std.proofs.lemmas.Bool.{eq-eqb}
use Rattle.model_text.specs.declared.literal.Literal.TheVariants.{OfText, OfBytes}
use Rattle.model_text.specs.Letters.{is_word, is_space, is_hash, is_quote}
use Rattle.model_text.specs.Symbols.{symbol_at}
use Rattle.model_text.specs.Literals.{inside_of}
use Rattle.model_text.specs.Pieces.{Blank, Comment, Word, Numeral, literal_at, punctuation_at}
use Rattle.law_tokens.proofs.PieceLemmas.{piece_at-space, piece_at-hash, piece_at-quote, piece_at-b, piece_at-digit, piece_at-word, piece_at-other}
use Rattle.aio_lex.specs.Fronts.{first_piece}

pub first-space : (rest : List ℕ) → 0 < length rest → get_or rest 0 0 ≡ 32 → first_piece rest ≡ Blank
first-space [] some e = absurd (omega arith)
first-space (byte ∷ bytes) some e = piece_at-space byte bytes (eq-eqb byte 32 e)

pub first-hash : (rest : List ℕ) → 0 < length rest → get_or rest 0 0 ≡ 35 → first_piece rest ≡ Comment rest
first-hash [] some e = absurd (omega arith)
first-hash (byte ∷ bytes) some e = piece_at-hash byte bytes (eq-eqb byte 35 e)

pub first-quote : (rest : List ℕ) → 0 < length rest → get_or rest 0 0 ≡ 34 → first_piece rest ≡ literal_at OfText (drop 1 rest) (inside_of false (drop 1 rest))
first-quote [] some e = absurd (omega arith)
first-quote (byte ∷ bytes) some e = piece_at-quote byte bytes (eq-eqb byte 34 e)

pub first-b : (rest : List ℕ) → 0 < length rest → get_or rest 0 0 ≡ 98 → is_quote (slice_index (drop 1 rest) 0) ≡ true → first_piece rest
    ≡ literal_at OfBytes (drop 2 rest) (inside_of false (drop 2 rest))
first-b [] some e q = absurd (omega arith)
first-b (byte ∷ bytes) some e q = piece_at-b byte bytes (eq-eqb byte 98 e) q

pub first-digit : (rest : List ℕ) → 0 < length rest → is_ascii_digit (get_or rest 0 0) ≡ true → first_piece rest ≡ Numeral (take_while is_word rest)
first-digit [] some d = absurd (omega arith)
first-digit (byte ∷ bytes) some d = piece_at-digit byte bytes d

pub first-word : (rest : List ℕ) → 0 < length rest → is_word (get_or rest 0 0) ≡ true → is_ascii_digit (get_or rest 0 0) ≡ false
    → (eqb (get_or rest 0 0) 98 && is_quote (slice_index (drop 1 rest) 0)) ≡ false → first_piece rest ≡ Word (take_while is_word rest)
first-word [] some w d b = absurd (omega arith)
first-word (byte ∷ bytes) some w d b = piece_at-word byte bytes w d b

pub first-other : (rest : List ℕ) → 0 < length rest → is_space (get_or rest 0 0) ≡ false → is_hash (get_or rest 0 0) ≡ false → is_quote (get_or rest 0 0)
    ≡ false → is_word (get_or rest 0 0) ≡ false → first_piece rest ≡ punctuation_at (slice_index rest 0) (symbol_at rest)
first-other [] some s h q w = absurd (omega arith)
first-other (byte ∷ bytes) some s h q w = piece_at-other byte bytes s h q w
