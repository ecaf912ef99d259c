use Rattle.std.proofs.Common.{◌≡◌, ◌+◌, ◌*◌, take, Ok}
use Rattle.model_tree.specs.Syntax.{exprs}
use Rattle.model_says.specs.Expressions.{values_of}
use Rattle.aio_syntax.specs.ExprSize.{expr_size, expr_list_size}
use Rattle.aio_expr.proofs.evaluate.+evaluate.Given as goal

abbrev pub decreases-evaluate : goal.decreases-evaluate
decreases-evaluate l = 4 * expr_size l.expr.now

abbrev pub decreases-evaluate_or : goal.decreases-evaluate_or
decreases-evaluate_or l = 4 * (expr_size l.left.now + expr_size l.right.now) + 3

abbrev pub decreases-evaluate_and : goal.decreases-evaluate_and
decreases-evaluate_and l = 4 * (expr_size l.left.now + expr_size l.right.now) + 3

abbrev pub decreases-evaluate_not : goal.decreases-evaluate_not
decreases-evaluate_not l = 4 * expr_size l.operand.now + 1

abbrev pub decreases-evaluate_compare : goal.decreases-evaluate_compare
decreases-evaluate_compare l = 4 * (expr_size l.left.now + expr_size l.right.now) + 3

abbrev pub decreases-compare_values : goal.decreases-compare_values
decreases-compare_values l = 4 * (expr_size l.left.now + expr_size l.right.now) + 2

abbrev pub decreases-evaluate_calculate : goal.decreases-evaluate_calculate
decreases-evaluate_calculate l = 4 * (expr_size l.left.now + expr_size l.right.now) + 3

abbrev pub decreases-calculate_values : goal.decreases-calculate_values
decreases-calculate_values l = 4 * (expr_size l.left.now + expr_size l.right.now) + 2

abbrev pub decreases-evaluate_negate : goal.decreases-evaluate_negate
decreases-evaluate_negate l = 4 * expr_size l.operand.now + 1

abbrev pub decreases-evaluate_index : goal.decreases-evaluate_index
decreases-evaluate_index l = 4 * (expr_size l.sequence.now + expr_size l.index.now) + 2

abbrev pub decreases-evaluate_list : goal.decreases-evaluate_list
decreases-evaluate_list l = 4 * expr_list_size l.items.now + 1

abbrev pub decreases-evaluate_apply : goal.decreases-evaluate_apply
decreases-evaluate_apply l = 4 * expr_size l.argument.now + 1

abbrev pub decreases-evaluate_error : goal.decreases-evaluate_error
decreases-evaluate_error l = 4 * expr_size l.message.now + 1

abbrev pub decreases-evaluate_two : goal.decreases-evaluate_two
decreases-evaluate_two l = 4 * (expr_size l.left.now + expr_size l.right.now) + 1

abbrev pub decreases-is_true : goal.decreases-is_true
decreases-is_true l = 4 * expr_size l.expr.now + 1

abbrev pub decreases-evaluate_all : goal.decreases-evaluate_all
decreases-evaluate_all l = 4 * expr_list_size l.items.now

abbrev pub invariant-evaluate_all-loop-item : goal.invariant-evaluate_all-loop-item
invariant-evaluate_all-loop-item l = values_of (exprs (take l.item-index l.items)) l.env ≡ Ok l.found.items
