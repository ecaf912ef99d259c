-- Each expression's lexemes are read as the expression.
use Rattle.std.proofs.Common.{◌≡◌, ℕ, suc, ◌≤◌, true, false, List, [], ◌∷◌, ◌++◌, length, Some, None, refl, sym, ap, subst, ◌∙◌, arith}
use Rattle.std.proofs.lemmas.List.{length-append}
use Rattle.std.specs.Prelude.{option_and_then, option_map, if◌then◌else◌}
use Rattle.model_tree.specs.declared.operator.Operator.{Operator}
use Rattle.model_tree.specs.declared.operator.Comparison.{Comparison}
use Rattle.model_text.specs.declared.symbol.Symbol.{Symbol}
use Rattle.model_text.specs.declared.symbol.Symbol.TheVariants as symbol
use Rattle.model_text.specs.declared.reserved_word.ReservedWord.TheVariants as word
use Rattle.model_text.specs.Words.{Lexeme, Sign, is_sign}
use Rattle.model_text.specs.Cutting.{Pieces, Cutter, ends_operand, depth_behind}
use Rattle.model_text.specs.Terms.{Term}
use Rattle.model_text.specs.Terms as term
use Rattle.model_text.specs.Levels.{at_word, at_comparison, at_sum, at_product, negated, product, sum_of, comparison_level, compared, denied}
use Rattle.model_text.specs.Levels.{conjunction, disjunction, term_within}
use Rattle.law_lines.specs.Lexemes.{within_parentheses}
use Rattle.law_lines.proofs.Cuts.{Passes, passes-append, inside-next, outside-next, Inside, cut-once, level-uncut, level-cut, Tame}
use Rattle.law_lines.proofs.Cuts.{StandsAsOperand, tame_or, tame_and, tame_comparison, tame_sum, tame_product, as_negated, as_product, as_sum, as_denied}
use Rattle.law_lines.proofs.Cuts.{as_conjunction, as_disjunction, sign-uncut, up-denied, up-comparison, up-sum, up-product}
use Rattle.law_lines.proofs.Shapes.{parentheses-operand}

abbrev pub at_comma : Cutter Lexeme
at_comma behind at = if is_sign symbol.Comma at then Some at else None

pub tame_comma : Tame at_comma
tame_comma b (Sign sign) own = sign-uncut (λ (s : Symbol). at_comma b (Sign s)) refl refl sign own
tame_comma b _ own = refl

-- what is known of the lexemes of an expression, wherever they stand
pub record Shape (lexemes : List Lexeme) : Type 1 where
  pub inner : Inside lexemes
  pub commas : Passes at_comma 0 false 0 true lexemes
  pub first : Lexeme
  pub others : List Lexeme
  pub split : lexemes ≡ first ∷ others

pub record Facts (whole operand : List Lexeme) (t : Term) : Type 1 where
  pub shape : Shape whole
  pub reads : (n : ℕ) → length whole ≤ n → disjunction (term_within n) whole ≡ Some t
  pub operands : (n : ℕ) → length operand ≤ n → StandsAsOperand (term_within n) operand t

pub operation-facts : (whole : List Lexeme) (t : Term) → Shape whole → ((n : ℕ) → length whole ≤ n → disjunction (term_within n) whole ≡ Some t)
    → Facts whole (within_parentheses whole) t
operation-facts whole t shape reads = record {
  shape = shape;
  reads = reads;
  operands = λ n h. parentheses-operand n whole t reads shape.inner h;
}

pub bare-facts : (whole : List Lexeme) (t : Term) → ((n : ℕ) → length whole ≤ n → StandsAsOperand (term_within n) whole t) → Facts whole whole t
bare-facts whole t operands =
    let o : StandsAsOperand (term_within (length whole)) whole t = operands (length whole) (omega arith) in
    record {
      shape = record { inner = o.inner; commas = o.outer _ at_comma tame_comma false; first = o.first; others = o.others; split = o.split };
      reads = λ n h. as_disjunction (term_within n) whole t (operands n h);
      operands = operands;
    }

-- ---- two operands, and between them a lexeme that changes no depth
module _ (lw lo : List Lexeme) (l : Term) (fl : Facts lw lo l) (rw ro : List Lexeme) (r : Term) (fr : Facts rw ro r) (x : Lexeme)
    (dx : (d : ℕ) → depth_behind d x ≡ d) (ex : ends_operand x ≡ false) where
  left : (n : ℕ) → length (lo ++ x ∷ ro) ≤ n → StandsAsOperand (term_within n) lo l
  left n h = fl.operands n (omega (arith, length-append lo (x ∷ ro)))

  right : (n : ℕ) → length (lo ++ x ∷ ro) ≤ n → StandsAsOperand (term_within n) ro r
  right n h = fr.operands n (omega (arith, length-append lo (x ∷ ro)))

  moved : {A : Type 0} (cutter : Cutter A) (d : ℕ) → Passes cutter d false d true ro → Passes cutter (depth_behind d x) (ends_operand x) d true ro
  moved cutter d q =
      subst (λ k. Passes cutter k (ends_operand x) d true ro) (sym (dx d)) (subst (λ b. Passes cutter d b d true ro) (sym ex) q)

  outer : {A : Type 0} (cutter : Cutter A) → Tame cutter → cutter true x ≡ None → Passes cutter 0 false 0 true (lo ++ x ∷ ro)
  outer cutter tame e =
      passes-append cutter 0 false 0 true 0 true lo (x ∷ ro) ((fl.operands (length lo) (omega arith)).outer _ cutter tame false)
      (outside-next cutter true x 0 true ro e (moved cutter 0 ((fr.operands (length ro) (omega arith)).outer _ cutter tame false)))

  shape : at_comma true x ≡ None → Shape (lo ++ x ∷ ro)
  shape e =
      let o : StandsAsOperand (term_within (length lo)) lo l = fl.operands (length lo) (omega arith) in
      record {
        inner = λ A cutter d a. passes-append cutter (suc d) a (suc d) true (suc d) true lo (x ∷ ro) (o.inner A cutter d a)
            (inside-next cutter d true x (suc d) true ro (moved cutter (suc d) ((fr.operands (length ro) (omega arith)).inner A cutter d false)));
        commas = outer at_comma tame_comma e;
        first = o.first;
        others = o.others ++ x ∷ ro;
        split = ap (λ l. l ++ x ∷ ro) o.split;
      }

  -- a comparison or less, up to the loosest level
  up : (n : ℕ) (t : Term) → length (lo ++ x ∷ ro) ≤ n → at_word word.And true x ≡ None → at_word word.Or true x ≡ None
      → comparison_level (term_within n) (lo ++ x ∷ ro) ≡ Some t → disjunction (term_within n) (lo ++ x ∷ ro) ≡ Some t
  up n t h a o e =
      let s : StandsAsOperand (term_within n) lo l = left n h in
      up-denied (term_within n) (lo ++ x ∷ ro) t (outer (at_word word.And) tame_and a) (outer (at_word word.Or) tame_or o)
      (up-comparison (term_within n) (lo ++ x ∷ ro) t s.first (s.others ++ x ∷ ro) (ap (λ l. l ++ x ∷ ro) s.split) s.no_not e)

  pub or-reads : (n : ℕ) → at_word word.Or true x ≡ Some word.Or → length (lo ++ x ∷ ro) ≤ n → disjunction (term_within n) (lo ++ x ∷ ro) ≡ Some (term.Or l r)
  or-reads n e h =
      level-cut (at_word word.Or) (λ reserved. term.Or) (conjunction (term_within n)) lo ro x word.Or true l r
      ((left n h).outer _ (at_word word.Or) tame_or false) e (moved (at_word word.Or) 0 ((right n h).outer _ (at_word word.Or) tame_or false))
      (as_conjunction (term_within n) lo l (left n h)) (as_conjunction (term_within n) ro r (right n h))

  pub and-reads : (n : ℕ) → at_word word.And true x ≡ Some word.And → at_word word.Or true x ≡ None → length (lo ++ x ∷ ro) ≤ n
      → disjunction (term_within n) (lo ++ x ∷ ro) ≡ Some (term.And l r)
  and-reads n e o h =
      level-uncut (at_word word.Or) (λ reserved. term.Or) (conjunction (term_within n)) true (lo ++ x ∷ ro) (term.And l r) (outer (at_word word.Or) tame_or o)
      (level-cut (at_word word.And) (λ reserved. term.And) (denied (term_within n)) lo ro x word.And true l r
      ((left n h).outer _ (at_word word.And) tame_and false) e (moved (at_word word.And) 0 ((right n h).outer _ (at_word word.And) tame_and false))
      (as_denied (term_within n) lo l (left n h)) (as_denied (term_within n) ro r (right n h)))

  pub compare-reads : (n : ℕ) (c : Comparison) → at_comparison true x ≡ Some c → at_word word.And true x ≡ None → at_word word.Or true x ≡ None
      → length (lo ++ x ∷ ro) ≤ n → disjunction (term_within n) (lo ++ x ∷ ro) ≡ Some (term.Compare c l r)
  compare-reads n c e a o h =
      up n (term.Compare c l r) h a o
      (ap (λ (p : Pieces Comparison). option_and_then (compared (term_within n) p.others) (sum_of (term_within n) p.first))
      (cut-once at_comparison lo ro x c true ((left n h).outer _ at_comparison tame_comparison false) e
      (moved at_comparison 0 ((right n h).outer _ at_comparison tame_comparison false)))
      ∙ (ap (option_and_then (compared (term_within n) ((c, ro) ∷ []))) (as_sum (term_within n) lo l (left n h))
      ∙ ap (option_map (term.Compare c l)) (as_sum (term_within n) ro r (right n h))))

  pub sum-reads : (n : ℕ) (c : Operator) → at_sum true x ≡ Some c → at_comparison true x ≡ None → at_word word.And true x ≡ None → at_word word.Or true x ≡ None
      → length (lo ++ x ∷ ro) ≤ n → disjunction (term_within n) (lo ++ x ∷ ro) ≡ Some (term.Calculate c l r)
  sum-reads n c e m a o h =
      up n (term.Calculate c l r) h a o
      (up-sum (term_within n) (lo ++ x ∷ ro) (term.Calculate c l r) (outer at_comparison tame_comparison m)
      (level-cut at_sum term.Calculate (product (term_within n)) lo ro x c true l r ((left n h).outer _ at_sum tame_sum false) e
      (moved at_sum 0 ((right n h).outer _ at_sum tame_sum false)) (as_product (term_within n) lo l (left n h))
      (as_product (term_within n) ro r (right n h))))

  pub product-reads : (n : ℕ) (c : Operator) → at_product true x ≡ Some c → at_sum true x ≡ None → at_comparison true x ≡ None → at_word word.And true x ≡ None
      → at_word word.Or true x ≡ None → length (lo ++ x ∷ ro) ≤ n → disjunction (term_within n) (lo ++ x ∷ ro) ≡ Some (term.Calculate c l r)
  product-reads n c e s m a o h =
      up n (term.Calculate c l r) h a o
      (up-sum (term_within n) (lo ++ x ∷ ro) (term.Calculate c l r) (outer at_comparison tame_comparison m)
      (up-product (term_within n) (lo ++ x ∷ ro) (term.Calculate c l r) (outer at_sum tame_sum s)
      (level-cut at_product term.Calculate (negated (term_within n)) lo ro x c true l r ((left n h).outer _ at_product tame_product false) e
      (moved at_product 0 ((right n h).outer _ at_product tame_product false)) (as_negated (term_within n) lo l (left n h))
      (as_negated (term_within n) ro r (right n h)))))

  pub binary-facts : (t : Term) → at_comma true x ≡ None → ((n : ℕ) → length (lo ++ x ∷ ro) ≤ n → disjunction (term_within n) (lo ++ x ∷ ro) ≡ Some t)
      → Facts (lo ++ x ∷ ro) (within_parentheses (lo ++ x ∷ ro)) t
  binary-facts t e reads = operation-facts (lo ++ x ∷ ro) t (shape e) reads
