-- The parts of an expression are smaller than it, and each expression of a list is smaller than the list.
use Rattle.std.specs.Prelude.{◌+◌, ◌≤◌, max, List, [], ◌∷◌}
use Rattle.std.proofs.Common.{arith}
use denote.Param.Weighed.{most}
use Rattle.model_tree.specs.Syntax.{ExprOver}
use Rattle.aio_syntax.specs.ExprSize.{expr_size, expr_list_size}
use Rattle.aio_syntax.specs.declared.expr.ExprNode.{ExprNode}
use Rattle.aio_syntax.specs.declared.expr.ExprNode.TheVariants as node
use Rattle.aio_syntax.specs.declared.expr.ExprListOver.TheDeep.{deep-ExprNode}
use Rattle.aio_syntax.specs.Expr.{expr_of}

pub node_falls : {V : Type 0} (c : ExprNode V) → max (deep-ExprNode V c) 0 ≤ expr_size (expr_of c)
node_falls (node.List items) = omega arith
node_falls _ = omega arith

pub items_fall : {V : Type 0} (es : List (ExprOver V)) → max (most (λ e. expr_size e + 1) es) 0 ≤ expr_list_size es
items_fall [] = omega arith
items_fall (e ∷ es) = omega (arith, items_fall es)
