-- How many expressions stand inside an expression: what falls in each recursion over expressions.
use Rattle.std.specs.Prelude.{ℕ, ◌+◌, List}
use Rattle.model_tree.specs.Syntax.{ExprOver, Or, And, Not, Compare, Calculate, Negate, Index, ListOf, Apply, MakeError, ExprsOver, no_exprs, expr_then, exprs}

module _ {V : Type 0} where
  abbrev mutual
    pub expr_size : ExprOver V → ℕ
    expr_size (Or left right) = 1 + expr_size left + expr_size right
    expr_size (And left right) = 1 + expr_size left + expr_size right
    expr_size (Not operand) = 1 + expr_size operand
    expr_size (Compare comparison left right) = 1 + expr_size left + expr_size right
    expr_size (Calculate operator left right) = 1 + expr_size left + expr_size right
    expr_size (Negate operand) = 1 + expr_size operand
    expr_size (Index sequence index) = 1 + expr_size sequence + expr_size index
    expr_size (ListOf items) = 1 + exprs_size items
    expr_size (Apply function argument) = 1 + expr_size argument
    expr_size (MakeError kind message) = 1 + expr_size message
    expr_size _ = 0

    pub exprs_size : ExprsOver V → ℕ
    exprs_size no_exprs = 0
    exprs_size (expr_then first others) = 1 + expr_size first + exprs_size others

-- a list is larger than each of its expressions
abbrev pub expr_list_size : {V : Type 0} → List (ExprOver V) → ℕ
expr_list_size items = exprs_size (exprs items)
