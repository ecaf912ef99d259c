-- The lines of a text that was written line by line.
use Rattle.std.proofs.Common.{◌≡◌, ℕ, zero, suc, false, ◌&&◌, List, [], ◌∷◌, ◌++◌, map, flat_map, refl, ap, ◌∙◌, append_assoc, codes}
use Rattle.std.specs.Prelude.{◌==◌, if◌then◌else◌, slice_index}
use Rattle.std.specs.List.{AllByRecursion, repeat}
use Rattle.model_value.specs.Lines.{fronted, lines_of}
use Rattle.model_text.specs.TextLines.{without_returns, text_lines}
use Rattle.law_lines.specs.LineTexts.{line_text}
use Rattle.law_canonical.specs.ProgramLines.{Indented, indented_text}

-- neither a newline nor a carriage return
abbrev Plain : ℕ → Type 0
Plain byte = (byte == 10 ≡ false) × (byte == 13 ≡ false)

abbrev pub Clean : List ℕ → Type 0
Clean text = AllByRecursion Plain text

-- a line's text without its newline
abbrev pub line_bytes : Indented → List ℕ
line_bytes placed = repeat placed.blocks (codes "  ") ++ line_text placed.line

all-append : (P : ℕ → Type 0) (first others : List ℕ) → AllByRecursion P first → AllByRecursion P others → AllByRecursion P (first ++ others)
all-append P [] others f o = o
all-append P (byte ∷ first) others f o = (f.0, all-append P first others f.1 o)

spaces-plain : (blocks : ℕ) → Clean (repeat blocks (codes "  "))
spaces-plain zero = tt
spaces-plain (suc blocks) = ((refl, refl), ((refl, refl), spaces-plain blocks))

line-plain : (placed : Indented) → Clean (line_text placed.line) → Clean (line_bytes placed)
line-plain placed p = all-append Plain (repeat placed.blocks (codes "  ")) (line_text placed.line) (spaces-plain placed.blocks) p

-- ---- lines
one-line : (line others : List ℕ) → Clean line → lines_of (line ++ 10 ∷ others) ≡ line ∷ lines_of others
one-line [] others p = refl
one-line (byte ∷ line) others p =
    ap (λ test. if test then [] ∷ lines_of (line ++ 10 ∷ others) else fronted byte (lines_of (line ++ 10 ∷ others))) p.0.0
    ∙ ap (fronted byte) (one-line line others p.1)

-- no carriage return
abbrev Unreturned : ℕ → Type 0
Unreturned byte = byte == 13 ≡ false

unreturned : (text : List ℕ) → AllByRecursion Unreturned text → without_returns text ≡ text
unreturned [] p = refl
unreturned (byte ∷ text) p =
    ap (λ test. if test && (slice_index text 0 == 10) then without_returns text else byte ∷ without_returns text) p.0 ∙ ap (λ t. byte ∷ t) (unreturned text p.1)

plain-unreturned : (line : List ℕ) → Clean line → AllByRecursion Unreturned line
plain-unreturned [] p = tt
plain-unreturned (byte ∷ line) p = (p.0.1, plain-unreturned line p.1)

texts-unreturned : (lines : List Indented) → AllByRecursion (λ placed. Clean (line_text placed.line)) lines
    → AllByRecursion Unreturned (flat_map indented_text lines)
texts-unreturned [] p = tt
texts-unreturned (placed ∷ lines) p =
    all-append Unreturned (indented_text placed) (flat_map indented_text lines)
    (all-append Unreturned (line_bytes placed) (10 ∷ []) (plain-unreturned (line_bytes placed) (line-plain placed p.0)) (refl, tt))
    (texts-unreturned lines p.1)

all-lines : (lines : List Indented) → AllByRecursion (λ placed. Clean (line_text placed.line)) lines → lines_of (flat_map indented_text lines)
    ≡ map line_bytes lines
all-lines [] p = refl
all-lines (placed ∷ lines) p =
    ap lines_of (append_assoc (line_bytes placed) (10 ∷ []) (flat_map indented_text lines))
    ∙ (one-line (line_bytes placed) (flat_map indented_text lines) (line-plain placed p.0) ∙ ap (λ l. line_bytes placed ∷ l) (all-lines lines p.1))

pub written-lines : (lines : List Indented) → AllByRecursion (λ placed. Clean (line_text placed.line)) lines → text_lines (flat_map indented_text lines)
    ≡ map line_bytes lines
written-lines lines p =
    ap lines_of (unreturned (flat_map indented_text lines) (texts-unreturned lines p)) ∙ all-lines lines p
