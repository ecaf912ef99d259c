-- Brackets, and expressions whose operator stands once outside brackets.
use Rattle.std.proofs.Common.{◌≡◌, ℕ, zero, suc, ◌≤◌, Bool, true, false, List, [], ◌∷◌, ◌++◌, length, Option, Some, None, refl, sym, ap, ◌∙◌, arith}
use Rattle.std.proofs.Common.{append_assoc, append-nil}
use Rattle.std.proofs.lemmas.List.{length-append}
use Rattle.std.specs.Prelude.{option_and_then, option_map, if◌then◌else◌}
use Rattle.model_text.specs.declared.symbol.Symbol.{Symbol}
use Rattle.model_text.specs.declared.symbol.Symbol.TheVariants as symbol
use Rattle.model_text.specs.Words.{Lexeme, Sign, is_sign}
use Rattle.model_text.specs.Cutting.{Pieces, Cutter, pieces_from, before_last}
use Rattle.model_text.specs.Terms.{Term}
use Rattle.model_text.specs.Terms as term
use Rattle.model_text.specs.Levels.{Parser, is_not, at_index, item_index, joined, primary, bracketed, indexed, disjunction, term_within}
use Rattle.law_lines.specs.Lexemes.{within_parentheses, within_brackets}
use Rattle.law_lines.proofs.Cuts.{Passes, passes-append, inside-next, outside-next, Inside, inside-parentheses, outside-parentheses, whole-from, Tame}
use Rattle.law_lines.proofs.Cuts.{StandsAsOperand, item_behind, nothing-passes}

-- ---- brackets
pub before-last : (s : Symbol) (x : Lexeme) (lexemes : List Lexeme) → is_sign s x ≡ true → before_last s (lexemes ++ x ∷ []) ≡ Some lexemes
before-last s x [] e = ap (λ test. if test then (let l : Option (List Lexeme) = Some [] in l) else None) e
before-last s x (y ∷ []) e = ap (option_map (λ inner. y ∷ inner)) (before-last s x [] e)
before-last s x (y ∷ z ∷ lexemes) e = ap (option_map (λ inner. y ∷ inner)) (before-last s x (z ∷ lexemes) e)

pub primary-bracketed : (inside : Parser Term) (s : Symbol) (lexemes : List Lexeme) (x : Lexeme) → primary inside (Sign s ∷ (lexemes ++ x ∷ []))
    ≡ bracketed inside s (lexemes ++ x ∷ [])
primary-bracketed inside s [] x = refl
primary-bracketed inside s (y ∷ lexemes) x = refl

-- what stands inside brackets of a text with so many lexemes
pub inner-read : (n : ℕ) (lexemes : List Lexeme) (t : Term) → ((m : ℕ) → length lexemes ≤ m → disjunction (term_within m) lexemes ≡ Some t)
    → suc (length lexemes) ≤ n → term_within n lexemes ≡ Some t
inner-read zero lexemes t f h = absurd (omega arith)
inner-read (suc n) lexemes t f h = f n (omega arith)

parentheses-read : (inside : Parser Term) (lexemes : List Lexeme) (t : Term) → inside lexemes ≡ Some t → primary inside (within_parentheses lexemes) ≡ Some t
parentheses-read inside lexemes t e =
    primary-bracketed inside symbol.LeftParenthesis lexemes (Sign symbol.RightParenthesis)
    ∙ (ap (option_and_then inside) (before-last symbol.RightParenthesis (Sign symbol.RightParenthesis) lexemes refl) ∙ e)

pub indexed-whole : (inside : Parser Term) (lexemes : List Lexeme) (t : Term) → Passes at_index 0 false 0 true lexemes → primary inside lexemes ≡ Some t
    → indexed inside lexemes ≡ Some t
indexed-whole inside lexemes t p e =
    ap (λ (c : Pieces Symbol). option_and_then (λ sequence. joined {A = Symbol} (λ bracket. term.Index) (item_index inside) sequence c.others)
    (primary inside c.first)) (whole-from at_index 0 false true lexemes p)
    ∙ ap (option_and_then (λ sequence. joined {A = Symbol} (λ bracket. term.Index) (item_index inside) sequence [])) e

pub room : (x y : Lexeme) (lexemes : List Lexeme) (n : ℕ) → length (x ∷ (lexemes ++ y ∷ [])) ≤ n → suc (length lexemes) ≤ n
room x y lexemes n h = omega (arith, length-append lexemes (y ∷ []))

-- ---- operands of which no item is taken
index-whole : (lexemes : List Lexeme) → Passes at_index 0 false 0 true lexemes → (rest : List Lexeme)
    → pieces_from at_index 0 false (lexemes ++ Sign symbol.LeftBracket ∷ rest)
    ≡ item_behind (pieces_from at_index 0 false lexemes) (pieces_from at_index 1 false rest)
index-whole lexemes p rest =
    let q : Pieces Symbol = pieces_from at_index 1 false rest in
    p (Sign symbol.LeftBracket ∷ rest)
    ∙ (ap (λ (l : List Lexeme). let c : Pieces Symbol = record { first = l; others = (symbol.LeftBracket, q.first) ∷ q.others } in c) (append-nil lexemes)
    ∙ sym (ap (λ c. item_behind c q) (whole-from at_index 0 false true lexemes p)))

pub base-operand : (inside : Parser Term) (first : Lexeme) (others : List Lexeme) (t : Term) → primary inside (first ∷ others) ≡ Some t
    → Inside (first ∷ others) → ((A : Type 0) (cutter : Cutter A) → Tame cutter → (b : Bool) → Passes cutter 0 b 0 true (first ∷ others))
    → Passes at_index 0 false 0 true (first ∷ others) → is_sign symbol.Minus first ≡ false → is_not inside first ≡ false
    → StandsAsOperand inside (first ∷ others) t
base-operand inside first others t e inner outer p minus no_not = record {
  reads = indexed-whole inside (first ∷ others) t p e;
  index = index-whole (first ∷ others) p;
  inner = inner;
  outer = outer;
  first = first;
  others = others;
  split = refl;
  no_minus = minus;
  no_not = no_not;
}

pub parentheses-operand : (n : ℕ) (lexemes : List Lexeme) (t : Term) → ((m : ℕ) → length lexemes ≤ m → disjunction (term_within m) lexemes ≡ Some t)
    → Inside lexemes → length (within_parentheses lexemes) ≤ n → StandsAsOperand (term_within n) (within_parentheses lexemes) t
parentheses-operand n lexemes t f inner h =
    base-operand (term_within n) (Sign symbol.LeftParenthesis) (lexemes ++ Sign symbol.RightParenthesis ∷ []) t
    (parentheses-read (term_within n) lexemes t (inner-read n lexemes t f (room (Sign symbol.LeftParenthesis) (Sign symbol.RightParenthesis) lexemes n h)))
    (inside-parentheses lexemes inner) (λ A cutter tame b. outside-parentheses cutter b (tame b (Sign symbol.LeftParenthesis) refl) lexemes inner)
    (outside-parentheses at_index false refl lexemes inner) refl refl

-- ---- `x[i]`
snoc-step : (f g : Term → Option Term) (result s : Term) → ((right : Term) → f right ≡ Some s → g right ≡ Some result) → (found : Option Term)
    → option_and_then f found ≡ Some s → option_and_then g found ≡ Some result
snoc-step f g result s step None e = cc
snoc-step f g result s step (Some right) e = step right e

joined-snoc : {A : Type 0} (build : A → Term → Term → Term) (operand : Parser Term) (cut : A) (lexemes : List Lexeme) (r : Term) → operand lexemes ≡ Some r
    → (others : List (A × List Lexeme)) (left s : Term) → joined build operand left others ≡ Some s → joined build operand left (others ++ (cut, lexemes) ∷ [])
    ≡ Some (build cut s r)
joined-snoc build operand cut lexemes r e [] left s h =
    ap (option_and_then (λ right. joined build operand (build cut left right) [])) e ∙ ap (option_map (λ l. build cut l r)) h
joined-snoc {A} build operand cut lexemes r e (other ∷ others) left s h =
    snoc-step (λ right. joined build operand (build other.0 left right) others)
    (λ right. joined build operand (build other.0 left right) (others ++ (cut, lexemes) ∷ [])) (build cut s r) s
    (λ right. joined-snoc build operand cut lexemes r e others (build other.0 left right) s) (operand other.1) h

abbrev pub closed : List Lexeme → List Lexeme
closed lexemes = lexemes ++ Sign symbol.RightBracket ∷ []

pub closed-passes : {A : Type 0} (cutter : Cutter A) (d : ℕ) (lexemes : List Lexeme) → Inside lexemes → Passes cutter (suc d) false d true (closed lexemes)
closed-passes cutter d lexemes p =
    passes-append cutter (suc d) false (suc d) true d true lexemes (Sign symbol.RightBracket ∷ []) (p _ cutter d false)
    (inside-next cutter d true (Sign symbol.RightBracket) d true [] (nothing-passes cutter d true))

abbrev read_index : Parser Term → Pieces Symbol → Option Term
read_index inside c =
    option_and_then (λ sequence. joined {A = Symbol} (λ bracket. term.Index) (item_index inside) sequence c.others) (primary inside c.first)

module _ (inside : Parser Term) (sequence index : List Lexeme) (s i : Term) (o : StandsAsOperand inside sequence s) (e : inside index ≡ Some i)
    (p : Inside index) where
  once : pieces_from at_index 0 false (sequence ++ within_brackets index)
      ≡ item_behind (pieces_from at_index 0 false sequence) (let c : Pieces Symbol = record { first = closed index; others = [] } in c)
  once =
      o.index (closed index)
      ∙ ap (item_behind (pieces_from at_index 0 false sequence)) (whole-from at_index 1 false true (closed index) (closed-passes at_index 0 index p))

  item : item_index inside (closed index) ≡ Some i
  item = ap (option_and_then inside) (before-last symbol.RightBracket (Sign symbol.RightBracket) index refl) ∙ e

  index-reads : indexed inside (sequence ++ within_brackets index) ≡ Some (term.Index s i)
  index-reads =
      let q : Pieces Symbol = pieces_from at_index 0 false sequence in
      ap (read_index inside) once
      ∙ snoc-step (λ left. joined {A = Symbol} (λ bracket. term.Index) (item_index inside) left q.others)
      (λ left. joined {A = Symbol} (λ bracket. term.Index) (item_index inside) left (q.others ++ (symbol.LeftBracket, closed index) ∷ []))
      (term.Index s i) s
      (λ left. joined-snoc {A = Symbol} (λ bracket. term.Index) (item_index inside) symbol.LeftBracket (closed index) i item q.others left s)
      (primary inside q.first) o.reads

  index-index : (rest : List Lexeme) → pieces_from at_index 0 false ((sequence ++ within_brackets index) ++ Sign symbol.LeftBracket ∷ rest)
      ≡ item_behind (pieces_from at_index 0 false (sequence ++ within_brackets index)) (pieces_from at_index 1 false rest)
  index-index rest =
      let q : Pieces Symbol = pieces_from at_index 0 false sequence in
      let r : Pieces Symbol = pieces_from at_index 1 false rest in
      let last : List (Symbol × List Lexeme) = (symbol.LeftBracket, r.first) ∷ r.others in
      let with_others : List (Symbol × List Lexeme) → Pieces Symbol = λ others. record { first = q.first; others = others } in
      ap (pieces_from at_index 0 false) (append_assoc sequence (within_brackets index) (Sign symbol.LeftBracket ∷ rest))
      ∙ (o.index (closed index ++ Sign symbol.LeftBracket ∷ rest)
      ∙ (ap (item_behind q) (closed-passes at_index 0 index p (Sign symbol.LeftBracket ∷ rest))
      ∙ (ap (λ (l : List Lexeme). with_others (q.others ++ (symbol.LeftBracket, l) ∷ last)) (append-nil (closed index))
      ∙ (ap with_others (sym (append_assoc q.others ((symbol.LeftBracket, closed index) ∷ []) last))
      ∙ sym (ap (λ c. item_behind c r) once)))))

  pub index-operand : StandsAsOperand inside (sequence ++ within_brackets index) (term.Index s i)
  index-operand = record {
    reads = index-reads;
    index = index-index;
    inner = λ A cutter d a. passes-append cutter (suc d) a (suc d) true (suc d) true sequence (within_brackets index) (o.inner A cutter d a)
        (inside-next cutter d true (Sign symbol.LeftBracket) (suc d) true (closed index) (closed-passes cutter (suc d) index p));
    outer = λ A cutter tame b. passes-append cutter 0 b 0 true 0 true sequence (within_brackets index) (o.outer A cutter tame b)
        (outside-next cutter true (Sign symbol.LeftBracket) 0 true (closed index) (tame true (Sign symbol.LeftBracket) refl) (closed-passes cutter 0 index p));
    first = o.first;
    others = o.others ++ within_brackets index;
    split = ap (λ l. l ++ within_brackets index) o.split;
    no_minus = o.no_minus;
    no_not = o.no_not;
  }
