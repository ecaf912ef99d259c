use Rattle.std.proofs.Common.{◌≡◌, ◌+◌, ◌*◌, map, take}
use Rattle.algorithm_locals.specs.Numbered.{numbered_expr}
use Rattle.aio_syntax.specs.ExprSize.{expr_size, expr_list_size}
use Rattle.aio_flat.proofs.exprs.+flat.Given as goal

abbrev pub decreases-flat_expr : goal.decreases-flat_expr
decreases-flat_expr l = 3 * expr_size l.expr.now

abbrev pub decreases-boxed : goal.decreases-boxed
decreases-boxed l = 3 * expr_size l.expr.now + 1

abbrev pub decreases-boxed_two : goal.decreases-boxed_two
decreases-boxed_two l = 3 * (expr_size l.left.now + expr_size l.right.now) + 2

abbrev pub decreases-flat_exprs : goal.decreases-flat_exprs
decreases-flat_exprs l = 3 * expr_list_size l.items.now

abbrev pub invariant-flat_exprs-loop-item : goal.invariant-flat_exprs-loop-item
invariant-flat_exprs-loop-item l = l.made.items ≡ map (numbered_expr l.numbers) (take l.item-index l.items)
