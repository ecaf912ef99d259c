-- The facts of each expression, by its cases.
use Rattle.std.proofs.Common.{◌≡◌, ℕ, suc, ◌≤◌, Bool, true, false, List, [], ◌∷◌, ◌++◌, length, map, Option, Some, None, refl, sym, subst, ap}
use Rattle.std.proofs.Common.{◌∙◌, arith, append-nil}
use Rattle.std.proofs.lemmas.List.{length-append}
use Rattle.std.specs.Prelude.{option_and_then, option_map}
use Rattle.model_value.specs.Kinds.{kind_name}
use Rattle.model_tree.specs.declared.function.Function.{Function}
use Rattle.model_tree.specs.declared.function.Function.TheVariants as function
use Rattle.model_tree.specs.declared.operator.Operator.TheVariants as operator
use Rattle.model_tree.specs.declared.operator.Operator.{Operator}
use Rattle.model_tree.specs.declared.operator.Comparison.{Comparison}
use Rattle.model_tree.specs.declared.operator.Comparison.TheVariants as comparison
use Rattle.model_tree.specs.Syntax.{Constant, NoneConstant, TruthConstant, IntConstant, TextConstant, BytesConstant, Expr, Or, And, Not, Compare, Calculate}
use Rattle.model_tree.specs.Syntax.{Negate, Index, Literal, Variable, ListOf, Apply, MakeError, Exprs, no_exprs, expr_then}
use Rattle.model_tree.specs.Known.{function_text, error_text}
use Rattle.model_text.specs.declared.symbol.Symbol.TheVariants as symbol
use Rattle.model_text.specs.declared.reserved_word.ReservedWord.TheVariants as word
use Rattle.model_text.specs.Words.{Lexeme, Reserved, Named, Number, Texts, Octets, Sign, is_sign}
use Rattle.model_text.specs.Cutting.{Pieces, Cutter, depth_behind, ends_operand, parts, pieces_from}
use Rattle.model_text.specs.Terms.{Term, terms, Terms, no_terms, term_then}
use Rattle.model_text.specs.Terms as term
use Rattle.model_text.specs.Levels.{Parser, is_not, Arguments, all_of, arguments_of, kind_place, called, items, primary, at_word, at_comparison, at_sum}
use Rattle.model_text.specs.Levels.{at_product, at_index, negated, term_within, term_of}
use Rattle.law_lines.specs.Lexemes.{operator_symbol, comparison_symbol, constant_lexeme, within_parentheses, within_brackets, operand_lexemes}
use Rattle.law_lines.specs.Lexemes.{expr_lexemes, exprs_lexemes, more_lexemes, term_from, terms_from}
use Rattle.law_lines.proofs.Cuts.{nothing-passes, Passes, passes-append, inside-next, outside-next, Inside, inside-parentheses, outside-parentheses}
use Rattle.law_lines.proofs.Cuts.{in_front, whole-from, level-uncut, is_operands_own, Tame, tame_or, tame_and, tame_comparison, tame_sum, tame_product}
use Rattle.law_lines.proofs.Cuts.{as_denied, as_negated, up-denied, up-comparison, up-sum, up-product}
use Rattle.law_lines.proofs.Shapes.{base-operand, inner-read, room, index-operand, before-last, primary-bracketed}
use Rattle.law_lines.proofs.Read.{at_comma, tame_comma, Shape, Facts, operation-facts, bare-facts, or-reads}
use Rattle.law_lines.proofs.Read.{and-reads, compare-reads, sum-reads, product-reads, binary-facts}

-- ---- one operand
module _ (w o : List Lexeme) (t : Term) (f : Facts w o t) where
  behind-first : (x : Lexeme) (n : ℕ) → length (x ∷ o) ≤ n → length o ≤ n
  behind-first x n h = omega arith

  minus-passes : {A : Type 0} (cutter : Cutter A) → Tame cutter → cutter false (Sign symbol.Minus) ≡ None → Passes cutter 0 false 0 true (Sign symbol.Minus ∷ o)
  minus-passes cutter tame e =
      outside-next cutter false (Sign symbol.Minus) 0 true o e ((f.operands (length o) (omega arith)).outer _ cutter tame false)

  not-passes : {A : Type 0} (cutter : Cutter A) → Tame cutter → cutter false (Reserved word.Not) ≡ None → Passes cutter 0 false 0 true (Reserved word.Not ∷ o)
  not-passes cutter tame e =
      outside-next cutter false (Reserved word.Not) 0 true o e ((f.operands (length o) (omega arith)).outer _ cutter tame false)

  pub negate-facts : Facts (Sign symbol.Minus ∷ o) (within_parentheses (Sign symbol.Minus ∷ o)) (term.Negate t)
  negate-facts = operation-facts (Sign symbol.Minus ∷ o) (term.Negate t) (
      record {
        inner = λ A cutter d a. inside-next cutter d a (Sign symbol.Minus) (suc d) true o ((f.operands (length o) (omega arith)).inner A cutter d false);
        commas = minus-passes at_comma tame_comma refl;
        first = Sign symbol.Minus;
        others = o;
        split = refl;
      }) (λ n h. up-denied (term_within n) (Sign symbol.Minus ∷ o) (term.Negate t) (minus-passes (at_word word.And) tame_and refl)
      (minus-passes (at_word word.Or) tame_or refl)
      (up-comparison (term_within n) (Sign symbol.Minus ∷ o) (term.Negate t) (Sign symbol.Minus) o refl refl
      (up-sum (term_within n) (Sign symbol.Minus ∷ o) (term.Negate t) (minus-passes at_comparison tame_comparison refl)
      (up-product (term_within n) (Sign symbol.Minus ∷ o) (term.Negate t) (minus-passes at_sum tame_sum refl)
      (level-uncut at_product term.Calculate (negated (term_within n)) true (Sign symbol.Minus ∷ o) (term.Negate t)
      (minus-passes at_product tame_product refl)
      (ap (option_map term.Negate) (as_negated (term_within n) o t (f.operands n (behind-first (Sign symbol.Minus) n h)))))))))

  pub not-facts : Facts (Reserved word.Not ∷ o) (within_parentheses (Reserved word.Not ∷ o)) (term.Not t)
  not-facts = operation-facts (Reserved word.Not ∷ o) (term.Not t) (
      record {
        inner = λ A cutter d a. inside-next cutter d a (Reserved word.Not) (suc d) true o ((f.operands (length o) (omega arith)).inner A cutter d false);
        commas = not-passes at_comma tame_comma refl;
        first = Reserved word.Not;
        others = o;
        split = refl;
      }) (λ n h. up-denied (term_within n) (Reserved word.Not ∷ o) (term.Not t) (not-passes (at_word word.And) tame_and refl)
      (not-passes (at_word word.Or) tame_or refl)
      (ap (option_map term.Not) (as_denied (term_within n) o t (f.operands n (behind-first (Reserved word.Not) n h)))))

-- ---- one lexeme, which changes no depth
atom-facts : (x : Lexeme) (t : Term) → ((inside : Parser Term) → primary inside (x ∷ []) ≡ Some t) → ((d : ℕ) → depth_behind d x ≡ d)
    → ends_operand x ≡ true → is_operands_own x ≡ true → is_sign symbol.Minus x ≡ false → ((inside : Parser Term) → is_not inside x ≡ false)
    → Facts (x ∷ []) (x ∷ []) t
atom-facts x t e deep ends own minus no_not =
    bare-facts (x ∷ []) t (λ n h. base-operand (term_within n) x [] t (e (term_within n))
    (λ A cutter d a. inside-next cutter d a x (suc d) true [] (behind cutter (suc d)))
    (λ A cutter tame b. outside-next cutter b x 0 true [] (tame b x own) (behind cutter 0))
    (outside-next at_index false x 0 true [] refl (behind at_index 0)) minus (no_not (term_within n)))
  where
    behind : {A : Type 0} (cutter : Cutter A) (d : ℕ) → Passes cutter (depth_behind d x) (ends_operand x) d true []
    behind cutter d =
        subst (λ k. Passes cutter k (ends_operand x) d true []) (sym (deep d))
        (subst (λ b. Passes cutter d b d true []) (sym ends) (nothing-passes cutter d true))

name-facts : (name : List ℕ) → Facts (Named name ∷ []) (Named name ∷ []) (term.Variable name)
name-facts name = atom-facts (Named name) (term.Variable name) (λ inside. refl) (λ d. refl) refl refl refl (λ inside. refl)

constant-facts : (c : Constant) → Facts (constant_lexeme c ∷ []) (constant_lexeme c ∷ []) (term.Constantly c)
constant-facts NoneConstant =
    atom-facts (Reserved word.NoneValue) (term.Constantly NoneConstant) (λ inside. refl) (λ d. refl) refl refl refl (λ inside. refl)
constant-facts (TruthConstant true) =
    atom-facts (Reserved word.TrueValue) (term.Constantly (TruthConstant true)) (λ inside. refl) (λ d. refl) refl refl refl (λ inside. refl)
constant-facts (TruthConstant false) =
    atom-facts (Reserved word.FalseValue) (term.Constantly (TruthConstant false)) (λ inside. refl) (λ d. refl) refl refl refl (λ inside. refl)
constant-facts (IntConstant number) =
    atom-facts (Number number) (term.Constantly (IntConstant number)) (λ inside. refl) (λ d. refl) refl refl refl (λ inside. refl)
constant-facts (TextConstant text) =
    atom-facts (Texts text) (term.Constantly (TextConstant text)) (λ inside. refl) (λ d. refl) refl refl refl (λ inside. refl)
constant-facts (BytesConstant bytes) =
    atom-facts (Octets bytes) (term.Constantly (BytesConstant bytes)) (λ inside. refl) (λ d. refl) refl refl refl (λ inside. refl)

-- ---- calls
parts-of : (lexemes : List Lexeme) → Shape lexemes → parts lexemes ≡ lexemes ∷ []
parts-of lexemes s =
    ap parts s.split
    ∙ ap (λ (c : Pieces Lexeme). c.first ∷ map (λ other. other.1) c.others)
    (ap (pieces_from at_comma 0 false) (sym s.split) ∙ whole-from at_comma 0 false true lexemes s.commas)

call-facts : (name : List ℕ) (x : List Lexeme) (t : Term) → Inside x → ((n : ℕ) → suc (length x) ≤ n → called (term_within n) name x ≡ Some t)
    → Facts (Named name ∷ within_parentheses x) (Named name ∷ within_parentheses x) t
call-facts name x t inner reads =
    bare-facts (Named name ∷ within_parentheses x) t
    (λ n h. base-operand (term_within n) (Named name) (within_parentheses x) t
    (ap (option_and_then (called (term_within n) name)) (before-last symbol.RightParenthesis (Sign symbol.RightParenthesis) x refl)
    ∙ reads n (room (Sign symbol.LeftParenthesis) (Sign symbol.RightParenthesis) x n (omega arith)))
    (λ A cutter d a. inside-next cutter d a (Named name) (suc d) true (within_parentheses x) (inside-parentheses x inner A cutter d true))
    (λ A cutter tame b. outside-next cutter b (Named name) 0 true (within_parentheses x) (tame b (Named name) refl)
    (outside-parentheses cutter true (tame true (Sign symbol.LeftParenthesis) refl) x inner))
    (outside-next at_index false (Named name) 0 true (within_parentheses x) refl
    (outside-parentheses at_index true refl x inner)) refl refl)

no-kind : (f : Function) → kind_place (function_text f) ≡ None
no-kind function.Len = refl
no-kind function.Str = refl
no-kind function.Bytes = refl
no-kind function.Text = refl
no-kind function.Kind = refl
no-kind function.Message = refl
no-kind function.Partial = refl
no-kind function.Members = refl

called_by : List ℕ → Arguments → Term
called_by name arguments = term.Called name (terms arguments.before) arguments.bare (terms arguments.after)

apply-facts : (f : Function) (w o : List Lexeme) (t : Term) → Facts w o t
    → Facts (Named (function_text f) ∷ within_parentheses w) (Named (function_text f) ∷ within_parentheses w)
    (term.Called (function_text f) (term_then t no_terms) None no_terms)
apply-facts f w o t e =
    call-facts (function_text f) w (term.Called (function_text f) (term_then t no_terms) None no_terms) e.shape.inner
    (λ n h. ap
    (λ place. option_map (λ (arguments : Arguments). term.Called (function_text f) (terms arguments.before) arguments.bare (terms arguments.after))
    (arguments_of (term_within n) place (parts w))) (no-kind f)
    ∙ (ap (λ slots. option_map
    (λ (arguments : Arguments). term.Called (function_text f) (terms arguments.before) arguments.bare (terms arguments.after))
    (arguments_of (term_within n) None slots)) (parts-of w e.shape)
    ∙ ap (λ found. option_map
    (λ (arguments : Arguments). term.Called (function_text f) (terms arguments.before) arguments.bare (terms arguments.after))
    (option_map (λ (all : List Term). let a : Arguments = record { before = all; bare = None; after = [] } in a)
    (option_and_then (λ y. option_map (λ ys. y ∷ ys) (Some [])) found))) (inner-read n w t e.reads h)))

kind-then : List ℕ → List Lexeme → List Lexeme
kind-then kind w = Named kind ∷ Sign symbol.Comma ∷ w

error-facts : (kind : List ℕ) (w o : List Lexeme) (t : Term) → Facts w o t
    → Facts (Named error_text ∷ within_parentheses (Named kind ∷ Sign symbol.Comma ∷ w))
    (Named error_text ∷ within_parentheses (Named kind ∷ Sign symbol.Comma ∷ w)) (term.Called error_text no_terms (Some kind) (term_then t no_terms))
error-facts kind w o t e =
    call-facts error_text (Named kind ∷ Sign symbol.Comma ∷ w) (term.Called error_text no_terms (Some kind) (term_then t no_terms))
    (λ A cutter d a. inside-next cutter d a (Named kind) (suc d) true (Sign symbol.Comma ∷ w)
    (inside-next cutter d true (Sign symbol.Comma) (suc d) true w (e.shape.inner A cutter d false)))
    (λ n h. ap
    (λ (c : Pieces Lexeme). option_map
    (λ (arguments : Arguments). term.Called error_text (terms arguments.before) arguments.bare (terms arguments.after))
    (arguments_of (term_within n) (Some 0) ((Named kind ∷ []) ∷ c.first ∷ map (λ other. other.1) c.others)))
    (whole-from at_comma 0 false true w e.shape.commas)
    ∙ ap (λ found. option_map
    (λ (arguments : Arguments). term.Called error_text (terms arguments.before) arguments.bare (terms arguments.after))
    (option_map (λ (all : List Term). let a : Arguments = record { before = []; bare = Some kind; after = all } in a)
    (option_and_then (λ y. option_map (λ ys. y ∷ ys) (Some [])) found))) (inner-read n w t e.reads (omega arith)))

-- ---- rows
abbrev pub groups : Exprs → List (Lexeme × List Lexeme)
groups no_exprs = []
groups (expr_then first others) = (Sign symbol.Comma, expr_lexemes first) ∷ groups others

abbrev row_terms : Exprs → List Term
row_terms no_exprs = []
row_terms (expr_then first others) = term_from first ∷ row_terms others

row-terms : (row : Exprs) → terms (row_terms row) ≡ terms_from row
row-terms no_exprs = refl
row-terms (expr_then first others) = ap (term_then (term_from first)) (row-terms others)

pub record More (others : Exprs) : Type 1 where
  pub inner : (A : Type 0) (cutter : Cutter A) (d : ℕ) → Passes cutter (suc d) true (suc d) true (more_lexemes others)
  pub cuts : pieces_from at_comma 0 true (more_lexemes others) ≡ (let c : Pieces Lexeme = record { first = []; others = groups others } in c)
  pub reads : (n : ℕ) → suc (length (more_lexemes others)) ≤ n → all_of (term_within n) (map (λ other. other.1) (groups others)) ≡ Some (row_terms others)

record ReadsRow (row : Exprs) : Type 1 where
  pub behind : Bool
  pub inner : (A : Type 0) (cutter : Cutter A) (d : ℕ) → Passes cutter (suc d) false (suc d) behind (exprs_lexemes row)
  pub reads : (n : ℕ) → suc (length (exprs_lexemes row)) ≤ n → all_of (term_within n) (parts (exprs_lexemes row)) ≡ Some (row_terms row)

pub front-pieces : (first others : List Lexeme) (cut : List (Lexeme × List Lexeme)) → Shape first → pieces_from at_comma 0 true others
    ≡ (let c : Pieces Lexeme = record { first = []; others = cut } in c) → pieces_from at_comma 0 false (first ++ others)
    ≡ (let c : Pieces Lexeme = record { first = first; others = cut } in c)
front-pieces first others cut s e =
    s.commas others ∙ (ap (in_front first) e ∙ ap (λ (l : List Lexeme). let c : Pieces Lexeme = record { first = l; others = cut } in c) (append-nil first))

front-reads : (n : ℕ) (w : List Lexeme) (t : Term) (slots : List (List Lexeme)) (ts : List Term) → term_within n w ≡ Some t → all_of (term_within n) slots
    ≡ Some ts → all_of (term_within n) (w ∷ slots) ≡ Some (t ∷ ts)
front-reads n w t slots ts e es =
    ap (option_and_then (λ y. option_map (λ ys. y ∷ ys) (all_of (term_within n) slots))) e ∙ ap (option_map (λ ys. t ∷ ys)) es

pub parts-front : (x : Lexeme) (xs lexemes : List Lexeme) → lexemes ≡ x ∷ xs → parts lexemes
    ≡ (let c : Pieces Lexeme = pieces_from at_comma 0 false lexemes in c.first ∷ map (λ other. other.1) c.others)
parts-front x xs lexemes e =
    ap parts e ∙ ap (λ (l : List Lexeme). let c : Pieces Lexeme = pieces_from at_comma 0 false l in c.first ∷ map (λ other. other.1) c.others) (sym e)

-- ---- two operands
or-facts : (lw lo : List Lexeme) (l : Term) → Facts lw lo l → (rw ro : List Lexeme) (r : Term) → Facts rw ro r
    → Facts (lo ++ Reserved word.Or ∷ ro) (within_parentheses (lo ++ Reserved word.Or ∷ ro)) (term.Or l r)
or-facts lw lo l fl rw ro r fr =
    binary-facts lw lo l fl rw ro r fr (Reserved word.Or) (λ d. refl) refl (term.Or l r) refl
    (λ n h. or-reads lw lo l fl rw ro r fr (Reserved word.Or) (λ d. refl) refl n refl h)

and-facts : (lw lo : List Lexeme) (l : Term) → Facts lw lo l → (rw ro : List Lexeme) (r : Term) → Facts rw ro r
    → Facts (lo ++ Reserved word.And ∷ ro) (within_parentheses (lo ++ Reserved word.And ∷ ro)) (term.And l r)
and-facts lw lo l fl rw ro r fr =
    binary-facts lw lo l fl rw ro r fr (Reserved word.And) (λ d. refl) refl (term.And l r) refl
    (λ n h. and-reads lw lo l fl rw ro r fr (Reserved word.And) (λ d. refl) refl n refl refl h)

compare-facts : (c : Comparison) (lw lo : List Lexeme) (l : Term) → Facts lw lo l → (rw ro : List Lexeme) (r : Term) → Facts rw ro r
    → Facts (lo ++ Sign (comparison_symbol c) ∷ ro) (within_parentheses (lo ++ Sign (comparison_symbol c) ∷ ro)) (term.Compare c l r)
compare-facts comparison.Equal lw lo l fl rw ro r fr =
    binary-facts lw lo l fl rw ro r fr (Sign symbol.Equals) (λ d. refl) refl (term.Compare comparison.Equal l r) refl
    (λ n h. compare-reads lw lo l fl rw ro r fr (Sign symbol.Equals) (λ d. refl) refl n comparison.Equal refl refl refl h)
compare-facts comparison.NotEqual lw lo l fl rw ro r fr =
    binary-facts lw lo l fl rw ro r fr (Sign symbol.NotEquals) (λ d. refl) refl (term.Compare comparison.NotEqual l r) refl
    (λ n h. compare-reads lw lo l fl rw ro r fr (Sign symbol.NotEquals) (λ d. refl) refl n comparison.NotEqual refl refl refl h)
compare-facts comparison.Less lw lo l fl rw ro r fr =
    binary-facts lw lo l fl rw ro r fr (Sign symbol.LessThan) (λ d. refl) refl (term.Compare comparison.Less l r) refl
    (λ n h. compare-reads lw lo l fl rw ro r fr (Sign symbol.LessThan) (λ d. refl) refl n comparison.Less refl refl refl h)
compare-facts comparison.LessOrEqual lw lo l fl rw ro r fr =
    binary-facts lw lo l fl rw ro r fr (Sign symbol.LessOrEqual) (λ d. refl) refl (term.Compare comparison.LessOrEqual l r) refl
    (λ n h. compare-reads lw lo l fl rw ro r fr (Sign symbol.LessOrEqual) (λ d. refl) refl n comparison.LessOrEqual refl refl refl h)
compare-facts comparison.Greater lw lo l fl rw ro r fr =
    binary-facts lw lo l fl rw ro r fr (Sign symbol.GreaterThan) (λ d. refl) refl (term.Compare comparison.Greater l r) refl
    (λ n h. compare-reads lw lo l fl rw ro r fr (Sign symbol.GreaterThan) (λ d. refl) refl n comparison.Greater refl refl refl h)
compare-facts comparison.GreaterOrEqual lw lo l fl rw ro r fr =
    binary-facts lw lo l fl rw ro r fr (Sign symbol.GreaterOrEqual) (λ d. refl) refl (term.Compare comparison.GreaterOrEqual l r) refl
    (λ n h. compare-reads lw lo l fl rw ro r fr (Sign symbol.GreaterOrEqual) (λ d. refl) refl n comparison.GreaterOrEqual refl refl refl h)

calculate-facts : (c : Operator) (lw lo : List Lexeme) (l : Term) → Facts lw lo l → (rw ro : List Lexeme) (r : Term) → Facts rw ro r
    → Facts (lo ++ Sign (operator_symbol c) ∷ ro) (within_parentheses (lo ++ Sign (operator_symbol c) ∷ ro)) (term.Calculate c l r)
calculate-facts operator.Add lw lo l fl rw ro r fr =
    binary-facts lw lo l fl rw ro r fr (Sign symbol.Plus) (λ d. refl) refl (term.Calculate operator.Add l r) refl
    (λ n h. sum-reads lw lo l fl rw ro r fr (Sign symbol.Plus) (λ d. refl) refl n operator.Add refl refl refl refl h)
calculate-facts operator.Subtract lw lo l fl rw ro r fr =
    binary-facts lw lo l fl rw ro r fr (Sign symbol.Minus) (λ d. refl) refl (term.Calculate operator.Subtract l r) refl
    (λ n h. sum-reads lw lo l fl rw ro r fr (Sign symbol.Minus) (λ d. refl) refl n operator.Subtract refl refl refl refl h)
calculate-facts operator.Multiply lw lo l fl rw ro r fr =
    binary-facts lw lo l fl rw ro r fr (Sign symbol.Star) (λ d. refl) refl (term.Calculate operator.Multiply l r) refl
    (λ n h. product-reads lw lo l fl rw ro r fr (Sign symbol.Star) (λ d. refl) refl n operator.Multiply refl refl refl refl refl h)
calculate-facts operator.FloorDivide lw lo l fl rw ro r fr =
    binary-facts lw lo l fl rw ro r fr (Sign symbol.DoubleSlash) (λ d. refl) refl (term.Calculate operator.FloorDivide l r) refl
    (λ n h. product-reads lw lo l fl rw ro r fr (Sign symbol.DoubleSlash) (λ d. refl) refl n operator.FloorDivide refl refl refl refl refl h)
calculate-facts operator.Remainder lw lo l fl rw ro r fr =
    binary-facts lw lo l fl rw ro r fr (Sign symbol.Percent) (λ d. refl) refl (term.Calculate operator.Remainder l r) refl
    (λ n h. product-reads lw lo l fl rw ro r fr (Sign symbol.Percent) (λ d. refl) refl n operator.Remainder refl refl refl refl refl h)

-- ---- lists
module _ (row : Exprs) (r : ReadsRow row) where
  row-closed : (A : Type 0) (cutter : Cutter A) (d : ℕ) → Passes cutter (suc d) false d true (exprs_lexemes row ++ Sign symbol.RightBracket ∷ [])
  row-closed A cutter d =
      passes-append cutter (suc d) false (suc d) r.behind d true (exprs_lexemes row) (Sign symbol.RightBracket ∷ []) (r.inner A cutter d)
      (inside-next cutter d r.behind (Sign symbol.RightBracket) d true [] (nothing-passes cutter d true))

  row-primary : (n : ℕ) → suc (length (exprs_lexemes row)) ≤ n → primary (term_within n) (within_brackets (exprs_lexemes row))
      ≡ Some (term.ListOf (terms_from row))
  row-primary n h =
      primary-bracketed (term_within n) symbol.LeftBracket (exprs_lexemes row) (Sign symbol.RightBracket)
      ∙ (ap (option_and_then (λ inner. option_map (λ all. term.ListOf (terms all)) (items (term_within n) inner)))
      (before-last symbol.RightBracket (Sign symbol.RightBracket) (exprs_lexemes row) refl)
      ∙ (ap (option_map (λ all. term.ListOf (terms all))) (r.reads n h)
      ∙ ap (λ (ts : Terms). let o : Option Term = Some (term.ListOf ts) in o) (row-terms row)))

  list-facts : Facts (within_brackets (exprs_lexemes row)) (within_brackets (exprs_lexemes row)) (term.ListOf (terms_from row))
  list-facts =
      bare-facts (within_brackets (exprs_lexemes row)) (term.ListOf (terms_from row))
      (λ n h. base-operand (term_within n) (Sign symbol.LeftBracket) (exprs_lexemes row ++ Sign symbol.RightBracket ∷ []) (term.ListOf (terms_from row))
      (row-primary n (room (Sign symbol.LeftBracket) (Sign symbol.RightBracket) (exprs_lexemes row) n h))
      (λ A cutter d a. inside-next cutter d a (Sign symbol.LeftBracket) (suc d) true (exprs_lexemes row ++ Sign symbol.RightBracket ∷ [])
      (row-closed A cutter (suc d)))
      (λ A cutter tame b. outside-next cutter b (Sign symbol.LeftBracket) 0 true (exprs_lexemes row ++ Sign symbol.RightBracket ∷ [])
      (tame b (Sign symbol.LeftBracket) refl) (row-closed A cutter 0))
      (outside-next at_index false (Sign symbol.LeftBracket) 0 true (exprs_lexemes row ++ Sign symbol.RightBracket ∷ []) refl
      (row-closed _ at_index 0)) refl refl)

no-row : ReadsRow no_exprs
no-row = record { behind = false; inner = λ A cutter d rest. refl; reads = λ n h. refl }

row-then : (first : Expr) (others : Exprs) → Facts (expr_lexemes first) (operand_lexemes first (expr_lexemes first)) (term_from first) → More others
    → ReadsRow (expr_then first others)
row-then first others f m = record {
  behind = true;
  inner = λ A cutter d. passes-append cutter (suc d) false (suc d) true (suc d) true (expr_lexemes first) (more_lexemes others) (f.shape.inner A cutter d false)
      (m.inner A cutter d);
  reads = λ n h. ap (all_of (term_within n))
      (parts-front f.shape.first (f.shape.others ++ more_lexemes others) (expr_lexemes first ++ more_lexemes others)
      (ap (λ l. l ++ more_lexemes others) f.shape.split))
      ∙ (ap (λ (c : Pieces Lexeme). all_of (term_within n) (c.first ∷ map (λ other. other.1) c.others))
      (front-pieces (expr_lexemes first) (more_lexemes others) (groups others) f.shape m.cuts)
      ∙ front-reads n (expr_lexemes first) (term_from first) (map (λ other. other.1) (groups others)) (row_terms others)
      (inner-read n (expr_lexemes first) (term_from first) f.reads
      (omega (arith, length-append (expr_lexemes first) (more_lexemes others))))
      (m.reads n (omega (arith, length-append (expr_lexemes first) (more_lexemes others)))));
}

no-more : More no_exprs
no-more = record { inner = λ A cutter d rest. refl; cuts = refl; reads = λ n h. refl }

more-then : (first : Expr) (others : Exprs) → Facts (expr_lexemes first) (operand_lexemes first (expr_lexemes first)) (term_from first) → More others
    → More (expr_then first others)
more-then first others f m = record {
  inner = λ A cutter d. inside-next cutter d true (Sign symbol.Comma) (suc d) true (expr_lexemes first ++ more_lexemes others)
      (passes-append cutter (suc d) false (suc d) true (suc d) true (expr_lexemes first) (more_lexemes others) (f.shape.inner A cutter d false)
      (m.inner A cutter d));
  cuts = ap (λ (c : Pieces Lexeme). let p : Pieces Lexeme = record { first = []; others = (Sign symbol.Comma, c.first) ∷ c.others } in p)
      (front-pieces (expr_lexemes first) (more_lexemes others) (groups others) f.shape m.cuts);
  reads = λ n h. front-reads n (expr_lexemes first) (term_from first) (map (λ other. other.1) (groups others)) (row_terms others)
      (inner-read n (expr_lexemes first) (term_from first) f.reads (omega (arith, length-append (expr_lexemes first) (more_lexemes others))))
      (m.reads n (omega (arith, length-append (expr_lexemes first) (more_lexemes others))));
}

-- ---- `x[i]`
index-facts : (sw so : List Lexeme) (s : Term) → Facts sw so s → (iw io : List Lexeme) (i : Term) → Facts iw io i
    → Facts (so ++ within_brackets iw) (so ++ within_brackets iw) (term.Index s i)
index-facts sw so s fs iw io i fi =
    bare-facts (so ++ within_brackets iw) (term.Index s i)
    (λ n h. index-operand (term_within n) so iw s i (fs.operands n (omega (arith, length-append so (within_brackets iw))))
    (inner-read n iw i fi.reads
    (omega (arith, length-append so (within_brackets iw), length-append iw (Sign symbol.RightBracket ∷ [])))) fi.shape.inner)

mutual
  pub facts : (e : Expr) → Facts (expr_lexemes e) (operand_lexemes e (expr_lexemes e)) (term_from e)
  facts (Or left right) = or-facts _ _ _ (facts left) _ _ _ (facts right)
  facts (And left right) = and-facts _ _ _ (facts left) _ _ _ (facts right)
  facts (Not operand) = not-facts _ _ _ (facts operand)
  facts (Compare c left right) = compare-facts c _ _ _ (facts left) _ _ _ (facts right)
  facts (Calculate c left right) = calculate-facts c _ _ _ (facts left) _ _ _ (facts right)
  facts (Negate operand) = negate-facts _ _ _ (facts operand)
  facts (Index sequence index) = index-facts _ _ _ (facts sequence) _ _ _ (facts index)
  facts (Literal constant) = constant-facts constant
  facts (Variable name) = name-facts name
  facts (ListOf row) = list-facts row (rows row)
  facts (Apply f argument) = apply-facts f _ _ _ (facts argument)
  facts (MakeError kind message) = error-facts (kind_name kind) _ _ _ (facts message)

  rows : (row : Exprs) → ReadsRow row
  rows no_exprs = no-row
  rows (expr_then first others) = row-then first others (facts first) (mores others)

  pub mores : (row : Exprs) → More row
  mores no_exprs = no-more
  mores (expr_then first others) = more-then first others (facts first) (mores others)

-- the tokens of an expression's canonical text are read as the expression
pub expression-read : (e : Expr) → term_of (expr_lexemes e) ≡ Some (term_from e)
unfolding term_of
expression-read e = (facts e).reads (length (expr_lexemes e)) (omega arith)
