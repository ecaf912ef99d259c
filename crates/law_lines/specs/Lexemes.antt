-- The tokens of an expression's canonical text, and the expression before names are looked up.
use Rattle.std.specs.Prelude.{Bool, true, false, List, [], ◌∷◌, ◌++◌, Some, None}
use Rattle.model_value.specs.Kinds.{kind_name}
use Rattle.model_tree.specs.declared.operator.Operator.{Operator}
use Rattle.model_tree.specs.declared.operator.Operator.TheVariants as operator
use Rattle.model_tree.specs.declared.operator.Comparison.{Comparison}
use Rattle.model_tree.specs.declared.operator.Comparison.TheVariants as comparison
use Rattle.model_tree.specs.Syntax.{Constant, NoneConstant, TruthConstant, IntConstant, TextConstant, BytesConstant, Expr, Or, And, Not, Compare, Calculate}
use Rattle.model_tree.specs.Syntax.{Negate, Index, Literal, Variable, ListOf, Apply, MakeError, Exprs, no_exprs, expr_then}
use Rattle.model_tree.specs.Known.{function_text, error_text}
use Rattle.model_text.specs.declared.symbol.Symbol.{Symbol}
use Rattle.model_text.specs.declared.symbol.Symbol.TheVariants as symbol
use Rattle.model_text.specs.declared.reserved_word.ReservedWord.TheVariants as word
use Rattle.model_text.specs.Words.{Lexeme, Reserved, Named, Number, Texts, Octets, Sign}
use Rattle.model_text.specs.Terms as term
use Rattle.model_text.specs.Terms.{Term, Terms, no_terms, term_then}

abbrev pub truth_lexeme : Bool → Lexeme
truth_lexeme true = Reserved word.TrueValue
truth_lexeme false = Reserved word.FalseValue

abbrev pub constant_lexeme : Constant → Lexeme
constant_lexeme NoneConstant = Reserved word.NoneValue
constant_lexeme (TruthConstant truth) = truth_lexeme truth
constant_lexeme (IntConstant number) = Number number
constant_lexeme (TextConstant bytes) = Texts bytes
constant_lexeme (BytesConstant bytes) = Octets bytes

abbrev pub operator_symbol : Operator → Symbol
operator_symbol operator.Add = symbol.Plus
operator_symbol operator.Subtract = symbol.Minus
operator_symbol operator.Multiply = symbol.Star
operator_symbol operator.FloorDivide = symbol.DoubleSlash
operator_symbol operator.Remainder = symbol.Percent

abbrev pub comparison_symbol : Comparison → Symbol
comparison_symbol comparison.Equal = symbol.Equals
comparison_symbol comparison.NotEqual = symbol.NotEquals
comparison_symbol comparison.Less = symbol.LessThan
comparison_symbol comparison.LessOrEqual = symbol.LessOrEqual
comparison_symbol comparison.Greater = symbol.GreaterThan
comparison_symbol comparison.GreaterOrEqual = symbol.GreaterOrEqual

abbrev pub within_parentheses : List Lexeme → List Lexeme
within_parentheses lexemes = Sign symbol.LeftParenthesis ∷ (lexemes ++ Sign symbol.RightParenthesis ∷ [])

abbrev pub within_brackets : List Lexeme → List Lexeme
within_brackets lexemes = Sign symbol.LeftBracket ∷ (lexemes ++ Sign symbol.RightBracket ∷ [])

-- an operation has parentheses where it is an operand
abbrev pub operand_lexemes : Expr → List Lexeme → List Lexeme
operand_lexemes (Or left right) lexemes = within_parentheses lexemes
operand_lexemes (And left right) lexemes = within_parentheses lexemes
operand_lexemes (Not operand) lexemes = within_parentheses lexemes
operand_lexemes (Compare comparison left right) lexemes = within_parentheses lexemes
operand_lexemes (Calculate operator left right) lexemes = within_parentheses lexemes
operand_lexemes (Negate operand) lexemes = within_parentheses lexemes
operand_lexemes _ lexemes = lexemes

abbrev mutual
  pub expr_lexemes : Expr → List Lexeme
  expr_lexemes (Or left right) =
      operand_lexemes left (expr_lexemes left) ++ Reserved word.Or ∷ operand_lexemes right (expr_lexemes right)
  expr_lexemes (And left right) =
      operand_lexemes left (expr_lexemes left) ++ Reserved word.And ∷ operand_lexemes right (expr_lexemes right)
  expr_lexemes (Not operand) = Reserved word.Not ∷ operand_lexemes operand (expr_lexemes operand)
  expr_lexemes (Compare comparison left right) =
      operand_lexemes left (expr_lexemes left) ++ Sign (comparison_symbol comparison) ∷ operand_lexemes right (expr_lexemes right)
  expr_lexemes (Calculate operator left right) =
      operand_lexemes left (expr_lexemes left) ++ Sign (operator_symbol operator) ∷ operand_lexemes right (expr_lexemes right)
  expr_lexemes (Negate operand) = Sign symbol.Minus ∷ operand_lexemes operand (expr_lexemes operand)
  expr_lexemes (Index sequence index) = operand_lexemes sequence (expr_lexemes sequence) ++ within_brackets (expr_lexemes index)
  expr_lexemes (Literal constant) = constant_lexeme constant ∷ []
  expr_lexemes (Variable name) = Named name ∷ []
  expr_lexemes (ListOf items) = within_brackets (exprs_lexemes items)
  expr_lexemes (Apply function argument) = Named (function_text function) ∷ within_parentheses (expr_lexemes argument)
  expr_lexemes (MakeError kind message) =
      Named error_text ∷ within_parentheses (Named (kind_name kind) ∷ Sign symbol.Comma ∷ expr_lexemes message)

  pub exprs_lexemes : Exprs → List Lexeme
  exprs_lexemes no_exprs = []
  exprs_lexemes (expr_then first others) = expr_lexemes first ++ more_lexemes others

  pub more_lexemes : Exprs → List Lexeme
  more_lexemes no_exprs = []
  more_lexemes (expr_then first others) = Sign symbol.Comma ∷ (expr_lexemes first ++ more_lexemes others)

abbrev mutual
  pub term_from : Expr → Term
  term_from (Or left right) = term.Or (term_from left) (term_from right)
  term_from (And left right) = term.And (term_from left) (term_from right)
  term_from (Not operand) = term.Not (term_from operand)
  term_from (Compare comparison left right) = term.Compare comparison (term_from left) (term_from right)
  term_from (Calculate operator left right) = term.Calculate operator (term_from left) (term_from right)
  term_from (Negate operand) = term.Negate (term_from operand)
  term_from (Index sequence index) = term.Index (term_from sequence) (term_from index)
  term_from (Literal constant) = term.Constantly constant
  term_from (Variable name) = term.Variable name
  term_from (ListOf items) = term.ListOf (terms_from items)
  term_from (Apply function argument) =
      term.Called (function_text function) (term_then (term_from argument) no_terms) None no_terms
  term_from (MakeError kind message) =
      term.Called error_text no_terms (Some (kind_name kind)) (term_then (term_from message) no_terms)

  pub terms_from : Exprs → Terms
  terms_from no_exprs = no_terms
  terms_from (expr_then first others) = term_then (term_from first) (terms_from others)
