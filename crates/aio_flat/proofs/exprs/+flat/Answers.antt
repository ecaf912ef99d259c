-- Each expression is smaller than its list.
use Rattle.std.proofs.Common.{rules, ◌*◌, ◌<◌, arith}
use Rattle.aio_syntax.specs.ExprSize.{expr_size, expr_list_size}
use Rattle.aio_syntax.proofs.Sizes.{expr_size-item}
use Rattle.aio_flat.proofs.exprs.+flat.Goals as goal

pub flat_exprs-flat_expr-requires : goal.flat_exprs-flat_expr-requires
flat_exprs-flat_expr-requires t c =
    let smaller = expr_size-item c.args.items.now c.loop-item.item-index c.item-item.result c.loop-item-test.true c.item-item.is in
    let falls : 3 * expr_size c.item-item.result < 3 * expr_list_size c.args.items.now = omega (arith, smaller) in
    search rules
