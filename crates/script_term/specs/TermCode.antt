-- An expression whose names are not looked up as one whose names are, and back: any of those would do that no other becomes,
-- so a call becomes a function's with all its parts. By it proofs tell expressions apart, and types of code may be seen as
-- expressions.
-- Source: the code of expressions (aio_syntax, specs/ExprCode.antt).
use Rattle.std.specs.Prelude.{◌≡◌, Option, Some, None}
use Rattle.std.proofs.Common.{refl, ap}
use Rattle.std.specs.Coded.{Coded, code_by, coded_ℕ, coded_list}
use Rattle.model_tree.specs.declared.function.Function.TheVariants as function
use Rattle.model_tree.specs.Syntax as syntax
use Rattle.model_tree.specs.Syntax.{Name, NoneConstant}
use Rattle.model_text.specs.Terms.{Term, Or, And, Not, Compare, Calculate, Negate, Index, Constantly, Variable, ListOf, Called, Terms, no_terms, term_then}
use Rattle.aio_syntax.specs.ExprCode.{coded_expr}

abbrev bare_expr : Option Name → syntax.Expr
bare_expr (Some name) = syntax.Variable name
bare_expr None = syntax.Literal NoneConstant

abbrev bare_from : Term → Option Name
bare_from (Variable name) = Some name
bare_from _ = None

abbrev mutual
  expr_of : Term → syntax.Expr
  expr_of (Or left right) = syntax.Or (expr_of left) (expr_of right)
  expr_of (And left right) = syntax.And (expr_of left) (expr_of right)
  expr_of (Not operand) = syntax.Not (expr_of operand)
  expr_of (Compare comparison left right) = syntax.Compare comparison (expr_of left) (expr_of right)
  expr_of (Calculate operator left right) = syntax.Calculate operator (expr_of left) (expr_of right)
  expr_of (Negate operand) = syntax.Negate (expr_of operand)
  expr_of (Index sequence index) = syntax.Index (expr_of sequence) (expr_of index)
  expr_of (Constantly constant) = syntax.Literal constant
  expr_of (Variable name) = syntax.Variable name
  expr_of (ListOf items) = syntax.ListOf (exprs_of items)
  expr_of (Called name before bare after) =
      syntax.Apply function.Len
      (syntax.Index (syntax.Index (syntax.Variable name) (bare_expr bare))
      (syntax.Index (syntax.ListOf (exprs_of before)) (syntax.ListOf (exprs_of after))))

  exprs_of : Terms → syntax.Exprs
  exprs_of no_terms = syntax.no_exprs
  exprs_of (term_then first others) = syntax.expr_then (expr_of first) (exprs_of others)

abbrev call_from : Term → Term
call_from (Index (Index (Variable name) bare) (Index (ListOf before) (ListOf after))) = Called name before (bare_from bare) after
call_from other = other

abbrev mutual
  term_from : syntax.Expr → Term
  term_from (syntax.Or left right) = Or (term_from left) (term_from right)
  term_from (syntax.And left right) = And (term_from left) (term_from right)
  term_from (syntax.Not operand) = Not (term_from operand)
  term_from (syntax.Compare comparison left right) = Compare comparison (term_from left) (term_from right)
  term_from (syntax.Calculate operator left right) = Calculate operator (term_from left) (term_from right)
  term_from (syntax.Negate operand) = Negate (term_from operand)
  term_from (syntax.Index sequence index) = Index (term_from sequence) (term_from index)
  term_from (syntax.Literal constant) = Constantly constant
  term_from (syntax.Variable name) = Variable name
  term_from (syntax.ListOf items) = ListOf (terms_from items)
  term_from (syntax.Apply function argument) = call_from (term_from argument)
  term_from (syntax.MakeError kind message) = term_from message

  terms_from : syntax.Exprs → Terms
  terms_from syntax.no_exprs = no_terms
  terms_from (syntax.expr_then first others) = term_then (term_from first) (terms_from others)

bare_again : (bare : Option Name) → bare_from (term_from (bare_expr bare)) ≡ bare
bare_again (Some name) = refl
bare_again None = refl

mutual
  pub term_again : (term : Term) → term_from (expr_of term) ≡ term
  term_again (Or left right) = λ i. Or (term_again left i) (term_again right i)
  term_again (And left right) = λ i. And (term_again left i) (term_again right i)
  term_again (Not operand) = ap Not (term_again operand)
  term_again (Compare comparison left right) = λ i. Compare comparison (term_again left i) (term_again right i)
  term_again (Calculate operator left right) = λ i. Calculate operator (term_again left i) (term_again right i)
  term_again (Negate operand) = ap Negate (term_again operand)
  term_again (Index sequence index) = λ i. Index (term_again sequence i) (term_again index i)
  term_again (Constantly constant) = refl
  term_again (Variable name) = refl
  term_again (ListOf items) = ap ListOf (terms_again items)
  term_again (Called name before bare after) = λ i. Called name (terms_again before i) (bare_again bare i) (terms_again after i)

  pub terms_again : (items : Terms) → terms_from (exprs_of items) ≡ items
  terms_again no_terms = refl
  terms_again (term_then first others) = λ i. term_then (term_again first i) (terms_again others i)

abbrev pub coded_term : Coded Term
coded_term = code_by syntax.Expr (coded_expr (coded_list coded_ℕ)) expr_of term_from term_again
