-- Where the lines of a text are cut.
use Rattle.std.proofs.Common.{◌≡◌, ℕ, ◌+◌, ◌<◌, List, [], ◌∷◌, length, get_or, take, drop, zero, suc, refl, ap, ◌∙◌, eqb, true, false, arith, add-one}
use Rattle.std.proofs.lemmas.Bool.Decides.{nat_tests}
use Rattle.model_value.specs.Lines.{lines_of, fronted}

-- a byte that is no newline goes to the front of the first line
lines_of-other : (byte : ℕ) (bytes : List ℕ) → (byte ≡ 10 → ⊥) → lines_of (byte ∷ bytes) ≡ fronted byte (lines_of bytes)
lines_of-other byte bytes other = let e : eqb byte 10 ≡ false = grind (arith, nat_tests) in rw e refl

lines_of-newline : (byte : ℕ) (bytes : List ℕ) → byte ≡ 10 → lines_of (byte ∷ bytes) ≡ [] ∷ lines_of bytes
lines_of-newline byte bytes same = let e : eqb byte 10 ≡ true = grind (arith, nat_tests) in rw e refl

cut_at : (text : List ℕ) (i : ℕ) → i < length text → ((k : ℕ) → k < i → get_or text k 0 ≡ 10 → ⊥) → get_or text i 0 ≡ 10 → lines_of text ≡ take i text
    ∷ lines_of (drop (suc i) text)
cut_at [] i within before here = absurd (omega arith)
cut_at (byte ∷ bytes) zero within before here = lines_of-newline byte bytes here
cut_at (byte ∷ bytes) (suc i) within before here =
    lines_of-other byte bytes (before 0 (omega arith))
    ∙ ap (fronted byte) (cut_at bytes i (omega arith) (λ k h. before (suc k) (omega arith)) here)

-- the first newline ends the first line
pub lines_of-cut : (text : List ℕ) (i : ℕ) → i < length text → ((k : ℕ) → k < i → get_or text k 0 ≡ 10 → ⊥) → get_or text i 0 ≡ 10 → lines_of text ≡ take i text
    ∷ lines_of (drop (i + 1) text)
lines_of-cut text i within before here = rw add-one (cut_at text i within before here)

-- a text with no newline is one line
pub lines_of-whole : (text : List ℕ) → 0 < length text → ((k : ℕ) → k < length text → get_or text k 0 ≡ 10 → ⊥) → lines_of text ≡ text ∷ []
lines_of-whole [] some before = absurd (omega arith)
lines_of-whole (byte ∷ []) some before = lines_of-other byte [] (before 0 (omega arith))
lines_of-whole (byte ∷ next ∷ bytes) some before =
    lines_of-other byte (next ∷ bytes) (before 0 (omega arith))
    ∙ ap (fronted byte) (lines_of-whole (next ∷ bytes) (omega arith) (λ k h. before (suc k) (omega arith)))
