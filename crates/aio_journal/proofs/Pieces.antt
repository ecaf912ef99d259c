-- The first word of a text, and what follows it.
use Rattle.std.proofs.Common.{◌≡◌, ℕ, ◌+◌, ◌<◌, ◌≤◌, Bool, true, false, ◌&&◌, List, [], ◌∷◌, length, take, drop, filter, refl, sym, ap, subst, ◌∙◌, arith}
use Rattle.std.proofs.Common.{add-one, if◌then◌else◌}
use Rattle.std.proofs.lemmas.Bool.{and_parts}
use Rattle.std.proofs.lemmas.List.{length-take}
use Rattle.std.proofs.lemmas.Bool.Decides.{nat_tests}
use Rattle.model_text.specs.Letters.{is_space, is_quote}
use Rattle.model_wire.specs.JournalText.{QuoteState, Outside, Inside, Escaped, is_outside, standing_after, put, pieces_of, is_some, words_of}
use Rattle.aio_journal.specs.Words.{word_len}

-- a text's pieces: the first, of this length, and others with the words of the rest
abbrev FirstPiece : QuoteState → List ℕ → ℕ → Type 0
FirstPiece standing text len =
    (others : List (List ℕ)) × (pieces_of standing text ≡ take len text ∷ others) × (filter is_some others ≡ words_of (drop len text))

space-parts : (byte : ℕ) → is_space byte ≡ true → standing_after Outside byte ≡ Outside
space-parts byte s = let q : is_quote byte ≡ false = grind (arith, nat_tests) in rw q refl

by-space : (standing : QuoteState) (byte : ℕ) → is_outside standing ≡ true → is_space byte ≡ true → standing_after standing byte ≡ Outside
by-space Outside byte o s = space-parts byte s
by-space Inside byte o s = cc
by-space Escaped byte o s = cc

-- a space parts nothing from what follows it
pub after-space : (byte : ℕ) (bytes : List ℕ) → is_space byte ≡ true → words_of (byte ∷ bytes) ≡ words_of bytes
after-space byte bytes s =
    ap (λ b. filter is_some (put b byte (pieces_of (standing_after Outside byte) bytes))) s
    ∙ ap (λ standing. filter is_some (pieces_of standing bytes)) (space-parts byte s)

take-next : (len byte : ℕ) (bytes : List ℕ) → take (len + 1) (byte ∷ bytes) ≡ byte ∷ take len bytes
take-next len byte bytes = rw add-one refl

drop-next : (len byte : ℕ) (bytes : List ℕ) → drop (len + 1) (byte ∷ bytes) ≡ drop len bytes
drop-next len byte bytes = rw add-one refl

parted : (standing : QuoteState) (byte : ℕ) (bytes : List ℕ) → is_outside standing && is_space byte ≡ true → FirstPiece standing (byte ∷ bytes) 0
parted standing byte bytes e =
    let p = and_parts (is_outside standing) (is_space byte) e in (
      pieces_of Outside bytes,
      ap (λ b. put b byte (pieces_of (standing_after standing byte) bytes)) e ∙ ap (λ s. [] ∷ pieces_of s bytes) (by-space standing byte p.0 p.1),
      sym (after-space byte bytes p.1),
    )

goes-on : (standing : QuoteState) (byte len : ℕ) (bytes : List ℕ) → is_outside standing && is_space byte ≡ false
    → FirstPiece (standing_after standing byte) bytes len → FirstPiece standing (byte ∷ bytes) (len + 1)
goes-on standing byte len bytes e f = (
  f.0,
  ap (λ b. put b byte (pieces_of (standing_after standing byte) bytes)) e ∙ ap (put false byte) f.1
      ∙ ap (λ first. first ∷ f.0) (sym (take-next len byte bytes)),
  f.2 ∙ ap words_of (sym (drop-next len byte bytes)),
)

abbrev len-by : Bool → ℕ → ℕ
len-by true len = 0
len-by false len = len + 1

first-by : (standing : QuoteState) (byte len : ℕ) (bytes : List ℕ) (parts : Bool) → is_outside standing && is_space byte ≡ parts
    → FirstPiece (standing_after standing byte) bytes len → FirstPiece standing (byte ∷ bytes) (len-by parts len)
first-by standing byte len bytes true e f = parted standing byte bytes e
first-by standing byte len bytes false e f = goes-on standing byte len bytes e f

len-is : (parts : Bool) (len : ℕ) → (if parts then 0 else len + 1) ≡ len-by parts len
len-is true len = refl
len-is false len = refl

first-piece : (standing : QuoteState) (text : List ℕ) → FirstPiece standing text (word_len standing text)
first-piece standing [] = ([], refl, refl)
first-piece standing (byte ∷ bytes) =
    let len = word_len (standing_after standing byte) bytes in
    subst (FirstPiece standing (byte ∷ bytes)) (sym (len-is (is_outside standing && is_space byte) len))
    (first-by standing byte len bytes (is_outside standing && is_space byte) refl (first-piece (standing_after standing byte) bytes))

kept : (word : List ℕ) (words : List (List ℕ)) → 0 < length word → filter is_some (word ∷ words) ≡ word ∷ filter is_some words
kept [] words h = absurd (omega arith)
kept (byte ∷ bytes) words h = refl

-- the words of a text that begins with one
pub first_word : (text : List ℕ) (len : ℕ) → len ≡ word_len Outside text → 0 < len → len ≤ length text
    → words_of text ≡ take len text ∷ words_of (drop len text)
first_word text len e some within =
    let f = subst (FirstPiece Outside text) (sym e) (first-piece Outside text) in
    let longer : 0 < length (take len text) = omega (arith, length-take len text) in
    ap (filter is_some) f.1 ∙ kept (take len text) f.0 longer ∙ ap (λ words. take len text ∷ words) f.2

-- no word begins with a space
pub no-space : (byte : ℕ) (bytes : List ℕ) → is_space byte ≡ false → 0 < word_len Outside (byte ∷ bytes)
no-space byte bytes s = rw s (omega arith)
