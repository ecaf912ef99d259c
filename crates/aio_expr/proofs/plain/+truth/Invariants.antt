use Rattle.aio_syntax.specs.ExprSize.{expr_size}
use Rattle.aio_expr.proofs.plain.+truth.Given as goal

abbrev pub decreases-truth_of : goal.decreases-truth_of
decreases-truth_of l = expr_size l.expr.now
