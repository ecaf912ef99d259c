-- How many lines a text has with and without its carriage returns.
use Rattle.std.proofs.Common.{◌≡◌, refl, ap, ◌∙◌, sym, subst, ℕ, suc, Bool, true, false, ◌&&◌, List, [], ◌∷◌, length, arith}
use Rattle.std.proofs.lemmas.Bool.{false≢true, eqb-true}
use Rattle.std.specs.Prelude.{◌==◌, if◌then◌else◌, slice_index}
use Rattle.model_value.specs.Lines.{fronted, lines_of}
use Rattle.model_text.specs.TextLines.{without_returns}

fronted-alike : (byte other : ℕ) (lines others : List (List ℕ)) → length lines ≡ length others → length (fronted byte lines) ≡ length (fronted other others)
fronted-alike byte other [] [] e = refl
fronted-alike byte other [] (line ∷ others) e = absurd (omega (arith, e))
fronted-alike byte other (line ∷ lines) [] e = absurd (omega (arith, e))
fronted-alike byte other (line ∷ lines) (another ∷ others) e = e

kept-alike : (byte : ℕ) (bytes others : List ℕ) → length (lines_of bytes) ≡ length (lines_of others) → (is_end : Bool) → (byte == 10) ≡ is_end
    → length (lines_of (byte ∷ bytes)) ≡ length (lines_of (byte ∷ others))
kept-alike byte bytes others e true is =
    ap (λ test. length (if test then [] ∷ lines_of bytes else fronted byte (lines_of bytes))) is
    ∙ ap suc e
    ∙ sym (ap (λ test. length (if test then [] ∷ lines_of others else fronted byte (lines_of others))) is)
kept-alike byte bytes others e false is =
    ap (λ test. length (if test then [] ∷ lines_of bytes else fronted byte (lines_of bytes))) is
    ∙ fronted-alike byte byte (lines_of bytes) (lines_of others) e
    ∙ sym (ap (λ test. length (if test then [] ∷ lines_of others else fronted byte (lines_of others))) is)

dropped : (bytes : List ℕ) → (slice_index bytes 0 == 10) ≡ true → length (lines_of (13 ∷ bytes)) ≡ length (lines_of bytes)
dropped [] e = absurd (false≢true e)
dropped (byte ∷ bytes) e =
    ap (λ test. length (fronted 13 (if test then [] ∷ lines_of bytes else fronted byte (lines_of bytes)))) e
    ∙ sym (ap (λ test. length (if test then [] ∷ lines_of bytes else fronted byte (lines_of bytes))) e)

by-test : (byte : ℕ) (bytes : List ℕ) → length (lines_of (without_returns bytes)) ≡ length (lines_of bytes) → (returns next : Bool) → (byte == 13) ≡ returns
    → (slice_index bytes 0 == 10) ≡ next → length (lines_of (if returns && next then without_returns bytes else byte ∷ without_returns bytes))
    ≡ length (lines_of (byte ∷ bytes))
by-test byte bytes alike true true is ends =
    alike ∙ sym (subst (λ (b : ℕ). length (lines_of (b ∷ bytes)) ≡ length (lines_of bytes)) (sym (eqb-true byte 13 is)) (dropped bytes ends))
by-test byte bytes alike true false is ends = kept-alike byte (without_returns bytes) bytes alike (byte == 10) refl
by-test byte bytes alike false next is ends = kept-alike byte (without_returns bytes) bytes alike (byte == 10) refl

pub counts-alike : (text : List ℕ) → length (lines_of (without_returns text)) ≡ length (lines_of text)
counts-alike [] = refl
counts-alike (byte ∷ bytes) =
    by-test byte bytes (counts-alike bytes) (byte == 13) (slice_index bytes 0 == 10) refl refl
