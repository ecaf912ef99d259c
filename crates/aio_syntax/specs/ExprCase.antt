-- The expression that a case, with the parts that it lends, stands for.
use Rattle.model_tree.specs.Syntax.{ExprOver, Or, And, Not, Compare, Calculate, Negate, Index, Literal, Variable, ListOf, Apply, MakeError, exprs}
use Rattle.aio_syntax.specs.declared.expr.ExprCase.{ExprCase}
use Rattle.aio_syntax.specs.declared.expr.ExprCase.TheVariants as case
use Rattle.aio_syntax.specs.Constant.{constant_of}

abbrev pub expr_of_case : {V : Type 0} → ExprCase V → ExprOver V
expr_of_case (case.Or left right) = Or left.now right.now
expr_of_case (case.And left right) = And left.now right.now
expr_of_case (case.Not operand) = Not operand.now
expr_of_case (case.Compare comparison left right) = Compare comparison left.now right.now
expr_of_case (case.Calculate operator left right) = Calculate operator left.now right.now
expr_of_case (case.Negate operand) = Negate operand.now
expr_of_case (case.Index sequence index) = Index sequence.now index.now
expr_of_case (case.Literal constant) = Literal (constant_of constant.now)
expr_of_case (case.Variable name) = Variable name.now
expr_of_case (case.List items) = ListOf (exprs items.now)
expr_of_case (case.Apply function argument) = Apply function argument.now
expr_of_case (case.MakeError kind message) = MakeError kind message.now
