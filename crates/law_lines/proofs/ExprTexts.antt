-- The canonical text of an expression reads as its tokens.
use Rattle.std.proofs.Common.{ℕ, List, [], ◌∷◌, ◌++◌, refl}
use Rattle.std.specs.Prelude.{codes}
use Rattle.model_value.specs.Kinds.{kind_name}
use Rattle.model_tree.specs.declared.operator.Operator.{Operator}
use Rattle.model_tree.specs.declared.operator.Operator.TheVariants as operator
use Rattle.model_tree.specs.declared.operator.Comparison.{Comparison}
use Rattle.model_tree.specs.declared.operator.Comparison.TheVariants as comparison
use Rattle.model_tree.specs.Syntax.{Expr, Or, And, Not, Compare, Calculate, Negate, Index, Literal, Variable, ListOf, Apply, MakeError, Exprs, no_exprs}
use Rattle.model_tree.specs.Syntax.{expr_then}
use Rattle.model_tree.specs.Known.{function_text, error_text}
use Rattle.model_text.specs.declared.symbol.Symbol.TheVariants as symbol
use Rattle.model_text.specs.declared.reserved_word.ReservedWord.TheVariants as word
use Rattle.model_text.specs.Words.{Lexeme, Reserved, Named, Sign}
use Rattle.model_text.specs.Canonical.{operator_text, comparison_text, in_parentheses, as_operand, expr_text, exprs_text, more_text}
use Rattle.law_lines.specs.Lexemes.{operator_symbol, comparison_symbol, within_parentheses, within_brackets, operand_lexemes, expr_lexemes, exprs_lexemes}
use Rattle.law_lines.specs.Lexemes.{more_lexemes}
use Rattle.law_lines.specs.WellWritten.{WellWrittenExpr, WellWrittenExprs}
use Rattle.law_lines.proofs.Fronts.{Quiet, Leads, Fronts, fronts-then, leads-then, regrouped, nothing-fronts}
use Rattle.law_lines.proofs.TokenTexts.{name-fronts, function-well, kind-well, constant-fronts, bracket-leads, unbracket-fronts, minus-leads, comma-leads}
use Rattle.law_lines.proofs.TokenTexts.{operator-leads, comparison-leads, parentheses-fronts, word-leads, spaced-word}

-- an operand of its expression
operand-fronts : (e : Expr) (text : List ℕ) (lexemes : List Lexeme) → Fronts text lexemes → Fronts (as_operand e text) (operand_lexemes e lexemes)
operand-fronts (Or left right) text lexemes f = parentheses-fronts text lexemes f
operand-fronts (And left right) text lexemes f = parentheses-fronts text lexemes f
operand-fronts (Not operand) text lexemes f = parentheses-fronts text lexemes f
operand-fronts (Compare comparison left right) text lexemes f = parentheses-fronts text lexemes f
operand-fronts (Calculate operator left right) text lexemes f = parentheses-fronts text lexemes f
operand-fronts (Negate operand) text lexemes f = parentheses-fronts text lexemes f
operand-fronts (Index sequence index) text lexemes f = f
operand-fronts (Literal constant) text lexemes f = f
operand-fronts (Variable name) text lexemes f = f
operand-fronts (ListOf items) text lexemes f = f
operand-fronts (Apply function argument) text lexemes f = f
operand-fronts (MakeError kind message) text lexemes f = f

-- two operands, and their operator between them
pub between : (left middle right : List ℕ) (ll : List Lexeme) (x : Lexeme) (lr : List Lexeme) → Fronts left ll → Quiet (middle ++ right) → Leads middle (x ∷ [])
    → Fronts right lr → Fronts (left ++ middle ++ right) (ll ++ x ∷ lr)
between left middle right ll x lr fl q m fr =
    regrouped left middle right (ll ++ x ∷ lr) (fronts-then left (middle ++ right) ll (x ∷ lr) fl q (leads-then middle right (x ∷ []) lr m fr))

operator-quiet : (o : Operator) (right : List ℕ) → Quiet (operator_text o ++ right)
operator-quiet operator.Add right = (refl, refl)
operator-quiet operator.Subtract right = (refl, refl)
operator-quiet operator.Multiply right = (refl, refl)
operator-quiet operator.FloorDivide right = (refl, refl)
operator-quiet operator.Remainder right = (refl, refl)

comparison-quiet : (c : Comparison) (right : List ℕ) → Quiet (comparison_text c ++ right)
comparison-quiet comparison.Equal right = (refl, refl)
comparison-quiet comparison.NotEqual right = (refl, refl)
comparison-quiet comparison.Less right = (refl, refl)
comparison-quiet comparison.LessOrEqual right = (refl, refl)
comparison-quiet comparison.Greater right = (refl, refl)
comparison-quiet comparison.GreaterOrEqual right = (refl, refl)

brackets-fronts : (text : List ℕ) (lexemes : List Lexeme) → Fronts text lexemes → Fronts (codes "[" ++ (text ++ codes "]")) (within_brackets lexemes)
brackets-fronts text lexemes f =
    leads-then (codes "[") (text ++ codes "]") (Sign symbol.LeftBracket ∷ []) (lexemes ++ Sign symbol.RightBracket ∷ []) bracket-leads
    (fronts-then text (codes "]") lexemes (Sign symbol.RightBracket ∷ []) f (refl, refl) unbracket-fronts)

-- an item of a sequence
item-fronts : (sequence index : List ℕ) (ls li : List Lexeme) → Fronts sequence ls → Fronts index li
    → Fronts (sequence ++ codes "[" ++ index ++ codes "]") (ls ++ within_brackets li)
item-fronts sequence index ls li fs fi =
    regrouped (sequence ++ codes "[") index (codes "]") (ls ++ within_brackets li)
    (regrouped sequence (codes "[") (index ++ codes "]") (ls ++ within_brackets li)
    (fronts-then sequence (codes "[" ++ (index ++ codes "]")) ls (within_brackets li) fs (refl, refl) (brackets-fronts index li fi)))

-- a call by its name
pub call-fronts : (name text : List ℕ) (lexemes : List Lexeme) → Fronts name (Named name ∷ []) → Fronts text lexemes
    → Fronts (name ++ in_parentheses text) (Named name ∷ within_parentheses lexemes)
call-fronts name text lexemes n f =
    fronts-then name (in_parentheses text) (Named name ∷ []) (within_parentheses lexemes) n (refl, refl) (parentheses-fronts text lexemes f)

pub more-quiet : (row : Exprs) → Quiet (more_text row)
more-quiet no_exprs = (tt, tt)
more-quiet (expr_then first others) = (refl, refl)

mutual
  pub expr-fronts : (e : Expr) → WellWrittenExpr e → Fronts (expr_text e) (expr_lexemes e)
  expr-fronts (Or left right) w =
      between (as_operand left (expr_text left)) (codes " or ") (as_operand right (expr_text right)) (operand_lexemes left (expr_lexemes left))
      (Reserved word.Or) (operand_lexemes right (expr_lexemes right)) (operand-fronts left (expr_text left) (expr_lexemes left) (expr-fronts left w.0))
      (refl, refl) (spaced-word (codes "or") word.Or (refl, refl) refl)
      (operand-fronts right (expr_text right) (expr_lexemes right) (expr-fronts right w.1))
  expr-fronts (And left right) w =
      between (as_operand left (expr_text left)) (codes " and ") (as_operand right (expr_text right)) (operand_lexemes left (expr_lexemes left))
      (Reserved word.And) (operand_lexemes right (expr_lexemes right)) (operand-fronts left (expr_text left) (expr_lexemes left) (expr-fronts left w.0))
      (refl, refl) (spaced-word (codes "and") word.And (refl, refl) refl)
      (operand-fronts right (expr_text right) (expr_lexemes right) (expr-fronts right w.1))
  expr-fronts (Not operand) w =
      leads-then (codes "not ") (as_operand operand (expr_text operand)) (Reserved word.Not ∷ []) (operand_lexemes operand (expr_lexemes operand))
      (word-leads (codes "not") word.Not (refl, refl) refl) (operand-fronts operand (expr_text operand) (expr_lexemes operand) (expr-fronts operand w))
  expr-fronts (Compare c left right) w =
      between (as_operand left (expr_text left)) (comparison_text c) (as_operand right (expr_text right)) (operand_lexemes left (expr_lexemes left))
      (Sign (comparison_symbol c)) (operand_lexemes right (expr_lexemes right))
      (operand-fronts left (expr_text left) (expr_lexemes left) (expr-fronts left w.0)) (comparison-quiet c (as_operand right (expr_text right)))
      (comparison-leads c) (operand-fronts right (expr_text right) (expr_lexemes right) (expr-fronts right w.1))
  expr-fronts (Calculate o left right) w =
      between (as_operand left (expr_text left)) (operator_text o) (as_operand right (expr_text right)) (operand_lexemes left (expr_lexemes left))
      (Sign (operator_symbol o)) (operand_lexemes right (expr_lexemes right))
      (operand-fronts left (expr_text left) (expr_lexemes left) (expr-fronts left w.0)) (operator-quiet o (as_operand right (expr_text right)))
      (operator-leads o) (operand-fronts right (expr_text right) (expr_lexemes right) (expr-fronts right w.1))
  expr-fronts (Negate operand) w =
      leads-then (codes "-") (as_operand operand (expr_text operand)) (Sign symbol.Minus ∷ []) (operand_lexemes operand (expr_lexemes operand)) minus-leads
      (operand-fronts operand (expr_text operand) (expr_lexemes operand) (expr-fronts operand w))
  expr-fronts (Index sequence index) w =
      item-fronts (as_operand sequence (expr_text sequence)) (expr_text index) (operand_lexemes sequence (expr_lexemes sequence)) (expr_lexemes index)
      (operand-fronts sequence (expr_text sequence) (expr_lexemes sequence) (expr-fronts sequence w.0)) (expr-fronts index w.1)
  expr-fronts (Literal constant) w = constant-fronts constant w
  expr-fronts (Variable name) w = name-fronts name w
  expr-fronts (ListOf items) w = brackets-fronts (exprs_text items) (exprs_lexemes items) (exprs-fronts items w)
  expr-fronts (Apply function argument) w =
      call-fronts (function_text function) (expr_text argument) (expr_lexemes argument) (name-fronts (function_text function) (function-well function))
      (expr-fronts argument w)
  expr-fronts (MakeError kind message) w =
      call-fronts error_text (kind_name kind ++ codes ", " ++ expr_text message) (Named (kind_name kind) ∷ Sign symbol.Comma ∷ expr_lexemes message)
      (name-fronts error_text ((refl, refl), refl))
      (between (kind_name kind) (codes ", ") (expr_text message) (Named (kind_name kind) ∷ []) (Sign symbol.Comma) (expr_lexemes message)
      (name-fronts (kind_name kind) (kind-well kind)) (refl, refl) comma-leads (expr-fronts message w))

  pub exprs-fronts : (row : Exprs) → WellWrittenExprs row → Fronts (exprs_text row) (exprs_lexemes row)
  exprs-fronts no_exprs w = nothing-fronts
  exprs-fronts (expr_then first others) w =
      fronts-then (expr_text first) (more_text others) (expr_lexemes first) (more_lexemes others) (expr-fronts first w.0) (more-quiet others)
      (more-fronts others w.1)

  pub more-fronts : (row : Exprs) → WellWrittenExprs row → Fronts (more_text row) (more_lexemes row)
  more-fronts no_exprs w = nothing-fronts
  more-fronts (expr_then first others) w =
      leads-then (codes ", ") (expr_text first ++ more_text others) (Sign symbol.Comma ∷ []) (expr_lexemes first ++ more_lexemes others) comma-leads
      (fronts-then (expr_text first) (more_text others) (expr_lexemes first) (more_lexemes others) (expr-fronts first w.0) (more-quiet others)
      (more-fronts others w.1))
