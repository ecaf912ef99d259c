-- How an expression of the code is seen as plain data.
use Rattle.model_tree.specs.Syntax.{ExprOver, Or, And, Not, Compare, Calculate, Negate, Index, Literal, Variable, ListOf, Apply, MakeError, exprs}
use Rattle.aio_syntax.specs.declared.expr.ExprNode.{ExprNode}
use Rattle.aio_syntax.specs.declared.expr.ExprNode.TheVariants as node
use Rattle.aio_syntax.specs.Constant.{constant_of}

abbrev pub expr_of : {V : Type 0} → ExprNode V → ExprOver V
expr_of (node.Or left right) = Or left.value right.value
expr_of (node.And left right) = And left.value right.value
expr_of (node.Not operand) = Not operand.value
expr_of (node.Compare comparison left right) = Compare comparison left.value right.value
expr_of (node.Calculate operator left right) = Calculate operator left.value right.value
expr_of (node.Negate operand) = Negate operand.value
expr_of (node.Index sequence index) = Index sequence.value index.value
expr_of (node.Literal constant) = Literal (constant_of constant)
expr_of (node.Variable name) = Variable name
expr_of (node.List items) = ListOf (exprs items)
expr_of (node.Apply function argument) = Apply function argument.value
expr_of (node.MakeError kind message) = MakeError kind message.value
