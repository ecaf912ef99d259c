-- The first line of a text, and its lines with and without carriage returns.
use Rattle.std.proofs.Common.{◌≡◌, ℕ, suc, ◌+◌, ◌<◌, ◌≤◌, ◌&&◌, Bool, true, false, cond, eqb, List, [], ◌∷◌, ◌++◌, length, drop, slice_index, refl, sym, ap}
use Rattle.std.proofs.Common.{◌∙◌, subst, arith}
use Rattle.std.proofs.lemmas.Bool.Decides.{nat_tests}
use Rattle.std.proofs.lemmas.Bool.{false≢true}
use Rattle.model_value.specs.Lines.{lines_of, fronted}
use Rattle.model_text.specs.TextLines.{text_lines}
use Rattle.script_form.specs.Lines.{without_return}

-- where the first line of a text ends
pub record Cut (text line : List ℕ) : Type 0 where
  pub within : length line ≤ length text
  pub last : length text ≤ length line → text_lines text ≡ line ∷ []
  pub cut : length line < length text → text_lines text ≡ without_return line ∷ text_lines (drop (length line + 1) text)
  -- a newline follows
  pub newline : length line < length text → slice_index (drop (length line) text) 0 ≡ 10

cut-newline : (byte : ℕ) (bytes : List ℕ) → eqb byte 10 ≡ true → Cut (byte ∷ bytes) []
cut-newline byte bytes newline =
    let same : byte ≡ 10 = grind (arith, nat_tests) in
    let not_return : eqb byte 13 ≡ false = grind (arith, nat_tests) in
    record {
      within = omega arith;
      last = λ few. absurd (omega arith);
      cut = λ more. rw (not_return, newline) refl;
      newline = λ more. same;
    }

and-false : (b : Bool) → (b && false) ≡ false
and-false true = refl
and-false false = refl

cut-only : (byte : ℕ) → eqb byte 10 ≡ false → Cut (byte ∷ []) (byte ∷ [])
cut-only byte other = record {
  within = omega arith;
  last = λ few. rw (and-false (eqb byte 13), other) refl;
  cut = λ more. absurd (omega arith);
  newline = λ more. absurd (omega arith);
}

-- a return right before a newline
cut-return : (byte next : ℕ) (rest : List ℕ) → eqb byte 13 ≡ true → eqb next 10 ≡ true → Cut (next ∷ rest) [] → Cut (byte ∷ next ∷ rest) (byte ∷ [])
cut-return byte next rest is_return is_newline c =
    let same : next ≡ 10 = grind (arith, nat_tests) in
    record {
      within = omega arith;
      last = λ few. absurd (omega arith);
      cut = λ more. rw (is_return, is_newline) (c.cut (omega arith));
      newline = λ more. same;
    }

-- a byte in front of a line
cut-front : (byte next : ℕ) (rest line : List ℕ) → eqb byte 10 ≡ false → (eqb byte 13 && eqb next 10) ≡ false → Cut (next ∷ rest) line
    → Cut (byte ∷ next ∷ rest) (byte ∷ line)
cut-front byte next rest line other kept c =
    let bytes : List ℕ = next ∷ rest in
    let whole : text_lines (byte ∷ bytes) ≡ fronted byte (text_lines bytes) = rw (kept, other) refl in
    record {
      within = omega (arith, c.within);
      last = λ few. whole ∙ ap (fronted byte) (c.last (omega (arith, few)));
      cut = λ more.
          let below : length line < length bytes = omega (arith, more) in
          let place : length (byte ∷ line) + 1 ≡ suc (length line + 1) = omega arith in
          whole ∙ ap (fronted byte) (c.cut below)
          ∙ ap (λ first. first ∷ text_lines (drop (length line + 1) bytes)) (sym (front line (c.newline below)))
          ∙ ap (λ n. without_return (byte ∷ line) ∷ text_lines (drop n (byte ∷ bytes))) (sym place);
      newline = λ more. c.newline (omega (arith, more));
    }
  where
    by_test : (a b : Bool) → b ≡ true → (a && b) ≡ false → a ≡ false
    by_test false b is none = refl
    by_test true b is none = absurd (false≢true (sym none ∙ is))

    front : (line : List ℕ) → slice_index (drop (length line) (next ∷ rest)) 0 ≡ 10 → without_return (byte ∷ line) ≡ byte ∷ without_return line
    front (x ∷ xs) newline = refl
    front [] newline =
        let is_newline : eqb next 10 ≡ true = grind (arith, nat_tests) in
        let not_return : eqb byte 13 ≡ false = by_test (eqb byte 13) (eqb next 10) is_newline kept in
        rw not_return refl

-- a text that is not empty has a first line
some_line : (byte : ℕ) (bytes : List ℕ) → (line : List ℕ) × (lines : List (List ℕ)) × (lines_of (byte ∷ bytes) ≡ line ∷ lines)
some_line byte bytes = by_test (eqb byte 10) (lines_of bytes)
  where
    by_fronted : (lines : List (List ℕ)) → (l : List ℕ) × (ls : List (List ℕ)) × (fronted byte lines ≡ l ∷ ls)
    by_fronted [] = (byte ∷ [], [], refl)
    by_fronted (line ∷ lines) = (byte ∷ line, lines, refl)

    by_test : (b : Bool) (lines : List (List ℕ)) → (l : List ℕ) × (ls : List (List ℕ)) × (cond b ([] ∷ lines) (fronted byte lines) ≡ l ∷ ls)
    by_test true lines = ([], lines, refl)
    by_test false lines = by_fronted lines

newline-line : (byte : ℕ) (bytes line : List ℕ) (others : List (List ℕ)) → eqb byte 10 ≡ true → lines_of (byte ∷ bytes) ≡ line ∷ others → [] ≡ line
newline-line byte bytes line others newline e =
    let e' : [] ∷ lines_of bytes ≡ line ∷ others = sym (ap (λ b. cond b ([] ∷ lines_of bytes) (fronted byte (lines_of bytes))) newline) ∙ e in cc

pub first_cut : (text line : List ℕ) (others : List (List ℕ)) → lines_of text ≡ line ∷ others → Cut text line
first_cut [] line others e = cc
first_cut (byte ∷ []) line others e = by_test (eqb byte 10) refl
  where
    by_test : (b : Bool) → eqb byte 10 ≡ b → Cut (byte ∷ []) line
    by_test true newline = subst (Cut (byte ∷ [])) (newline-line byte [] line others newline e) (cut-newline byte [] newline)
    by_test false other =
        let e' : (byte ∷ []) ∷ [] ≡ line ∷ others = sym (ap (λ b. cond b ([] ∷ []) ((byte ∷ []) ∷ [])) other) ∙ e in
        let same : byte ∷ [] ≡ line = cc in
        subst (Cut (byte ∷ [])) same (cut-only byte other)
first_cut (byte ∷ next ∷ rest) line others e =
    let found = some_line next rest in
    by_test (eqb byte 10) refl found.0 found.1 found.2 (first_cut (next ∷ rest) found.0 found.1 found.2)
  where
    by_return : (l : List ℕ) (ls : List (List ℕ)) → lines_of (next ∷ rest) ≡ l ∷ ls → eqb byte 10 ≡ false → Cut (next ∷ rest) l → (a b : Bool) → eqb byte 13 ≡ a
        → eqb next 10 ≡ b → Cut (byte ∷ next ∷ rest) (byte ∷ l)
    by_return l ls e' other c true true at_byte at_next =
        let same = newline-line next rest l ls at_next e' in
        subst (λ l. Cut (byte ∷ next ∷ rest) (byte ∷ l)) same (cut-return byte next rest at_byte at_next (subst (Cut (next ∷ rest)) (sym same) c))
    by_return l ls e' other c true false at_byte at_next =
        cut-front byte next rest l other (λ i. at_byte i && at_next i) c
    by_return l ls e' other c false b at_byte at_next =
        cut-front byte next rest l other (λ i. at_byte i && eqb next 10) c

    by_test : (b : Bool) → eqb byte 10 ≡ b → (l : List ℕ) (ls : List (List ℕ)) → lines_of (next ∷ rest) ≡ l ∷ ls → Cut (next ∷ rest) l
        → Cut (byte ∷ next ∷ rest) line
    by_test true newline l ls e' c =
        subst (Cut (byte ∷ next ∷ rest)) (newline-line byte (next ∷ rest) line others newline e) (cut-newline byte (next ∷ rest) newline)
    by_test false other l ls e' c =
        let whole : (byte ∷ l) ∷ ls ≡ line ∷ others =
        ap (fronted byte) (sym e')
        ∙ sym (ap (λ b. cond b ([] ∷ lines_of (next ∷ rest)) (fronted byte (lines_of (next ∷ rest)))) other) ∙ e in
        let same : byte ∷ l ≡ line = cc in
        subst (Cut (byte ∷ next ∷ rest)) same (by_return l ls e' other c (eqb byte 13) (eqb next 10) refl refl)

-- a line, by its last byte
pub without_return-last : (inner : List ℕ) (last : ℕ) → without_return (inner ++ last ∷ []) ≡ cond (eqb last 13) inner (inner ++ last ∷ [])
without_return-last [] last = refl
without_return-last (byte ∷ []) last = by_test (eqb last 13)
  where
    by_test : (b : Bool) → byte ∷ cond b [] (last ∷ []) ≡ cond b (byte ∷ []) (byte ∷ last ∷ [])
    by_test true = refl
    by_test false = refl
without_return-last (byte ∷ next ∷ inner) last =
    ap (λ bytes. byte ∷ bytes) (without_return-last (next ∷ inner) last) ∙ by_test (eqb last 13)
  where
    by_test : (b : Bool) → byte ∷ cond b (next ∷ inner) (next ∷ inner ++ last ∷ []) ≡ cond b (byte ∷ next ∷ inner) (byte ∷ next ∷ inner ++ last ∷ [])
    by_test true = refl
    by_test false = refl

-- the same, by what the last byte is
pub return-dropped : (line inner : List ℕ) (last : ℕ) → line ≡ inner ++ last ∷ [] → last ≡ 13 → inner ≡ without_return line
return-dropped line inner last split is =
    let test : eqb last 13 ≡ true = grind (arith, nat_tests) in
    sym (ap without_return split ∙ without_return-last inner last ∙ ap (λ b. cond b inner (inner ++ last ∷ [])) test)

pub no-return-dropped : (line inner : List ℕ) (last : ℕ) → line ≡ inner ++ last ∷ [] → (last ≡ 13 → ⊥) → line ≡ without_return line
no-return-dropped line inner last split other =
    let test : eqb last 13 ≡ false = grind (arith, nat_tests) in
    split ∙ sym (ap without_return split ∙ without_return-last inner last ∙ ap (λ b. cond b inner (inner ++ last ∷ [])) test)
