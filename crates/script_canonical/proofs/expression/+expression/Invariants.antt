use Rattle.std.proofs.Common.{◌≡◌, ◌+◌, ◌*◌, ◌++◌, take}
use Rattle.model_tree.specs.Syntax.{exprs}
use Rattle.model_text.specs.Canonical.{exprs_text}
use Rattle.law_value.proofs.Joined.{separator}
use Rattle.aio_syntax.specs.ExprSize.{expr_size, expr_list_size}
use Rattle.script_canonical.proofs.expression.+expression.Given as goal

abbrev pub decreases-push_expr : goal.decreases-push_expr
decreases-push_expr l = 4 * expr_size l.expr.now

abbrev pub decreases-push_in_parentheses : goal.decreases-push_in_parentheses
decreases-push_in_parentheses l = 4 * expr_size l.expr.now + 1

abbrev pub decreases-push_operand : goal.decreases-push_operand
decreases-push_operand l = 4 * expr_size l.expr.now + 2

abbrev pub decreases-push_operands : goal.decreases-push_operands
decreases-push_operands l = 4 * (expr_size l.left.now + expr_size l.right.now) + 3

abbrev pub decreases-push_prefixed : goal.decreases-push_prefixed
decreases-push_prefixed l = 4 * expr_size l.operand.now + 3

abbrev pub decreases-push_error : goal.decreases-push_error
decreases-push_error l = 4 * expr_size l.message.now + 1

abbrev pub decreases-push_exprs : goal.decreases-push_exprs
decreases-push_exprs l = 4 * expr_list_size l.items.now

abbrev pub invariant-push_exprs-loop-item : goal.invariant-push_exprs-loop-item
invariant-push_exprs-loop-item l =
    (l.out.items ≡ l.initial.out.items ++ exprs_text (exprs (take l.item-index l.items)))
    × (l.before ≡ separator (take l.item-index l.items))
