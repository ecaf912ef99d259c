-- Which names an expression may use in a coroutine: variables that are bound, and kinds that `error` makes.
use Rattle.std.specs.Prelude.{◌≡◌, true}
use Rattle.model_tree.specs.Syntax.{Expr, Or, And, Not, Compare, Calculate, Negate, Index, Literal, Variable, ListOf, Apply, MakeError, Exprs, no_exprs}
use Rattle.model_tree.specs.Syntax.{expr_then}
use Rattle.model_tree.specs.Known.{is_made_by_error}
use Rattle.model_text.specs.Naming.{Scope, is_variable}

abbrev mutual
  pub Known : Scope → Expr → Type 0
  Known scope (Or left right) = Known scope left × Known scope right
  Known scope (And left right) = Known scope left × Known scope right
  Known scope (Not operand) = Known scope operand
  Known scope (Compare comparison left right) = Known scope left × Known scope right
  Known scope (Calculate operator left right) = Known scope left × Known scope right
  Known scope (Negate operand) = Known scope operand
  Known scope (Index sequence index) = Known scope sequence × Known scope index
  Known scope (Literal constant) = Unit {0}
  Known scope (Variable name) = is_variable scope name ≡ true
  Known scope (ListOf items) = AllKnown scope items
  Known scope (Apply function argument) = Known scope argument
  Known scope (MakeError kind message) = (is_made_by_error kind ≡ true) × Known scope message

  pub AllKnown : Scope → Exprs → Type 0
  AllKnown scope no_exprs = Unit {0}
  AllKnown scope (expr_then first others) = Known scope first × AllKnown scope others
