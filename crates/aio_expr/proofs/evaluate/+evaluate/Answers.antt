use Rattle.std.proofs.Common.{rules, ◌≡◌, ◌+◌, ◌*◌, ◌<◌, ◌++◌, [], ◌∷◌, take, Ok, refl, sym, ◌∙◌, ap, arith}
use Rattle.std.proofs.lemmas.List.{take_more}
use Rattle.model_tree.specs.Syntax.{Or, And, Compare, Calculate, Index, exprs}
use Rattle.model_says.specs.Expressions.{value_of, values_of}
use Rattle.model_says.specs.Operations.{compared, calculated, indexed}
use Rattle.aio_syntax.specs.ExprSize.{expr_size, expr_list_size}
use Rattle.aio_syntax.proofs.Sizes.{expr_size-item}
use Rattle.aio_expr.specs.Gives.{AllFail}
use Rattle.aio_expr.proofs.Evaluated.{gives-err, if-err, or-fails, and-fails, values_of-push, all-fail}
use Rattle.aio_expr.proofs.evaluate.+evaluate.Goals as goal

pub evaluate_or-returns-in_err-decided : goal.evaluate_or-returns-in_err-decided
evaluate_or-returns-in_err-decided t c =
    let cause = c.in_err-decided.field-0.0 in
    let left = c.args.left.now in
    let right = c.args.right.now in
    let env = c.args.env.now in
    gives-err (value_of (Or left right) env) c.from_residual.result cause c.from_residual.ensures.1
    (or-fails (Or left right) left right env cause refl c.in_err-decided.ensures.fault)

pub evaluate_and-returns-in_err-decided : goal.evaluate_and-returns-in_err-decided
evaluate_and-returns-in_err-decided t c =
    let cause = c.in_err-decided.field-0.0 in
    let left = c.args.left.now in
    let right = c.args.right.now in
    let env = c.args.env.now in
    gives-err (value_of (And left right) env) c.from_residual.result cause c.from_residual.ensures.1
    (and-fails (And left right) left right env cause refl c.in_err-decided.ensures.fault)

pub compare_values-returns-in_err-left : goal.compare_values-returns-in_err-left
compare_values-returns-in_err-left t c =
    gives-err (value_of (Compare c.args.comparison c.args.left.now c.args.right.now) c.args.env.now)
    c.from_residual.result c.in_err-left.field-0.0 c.from_residual.ensures.1
    (c.in_err-left.ensures.fault (compared c.args.comparison))

pub calculate_values-returns-in_err-left : goal.calculate_values-returns-in_err-left
calculate_values-returns-in_err-left t c =
    gives-err (value_of (Calculate c.args.operator c.args.left.now c.args.right.now) c.args.env.now)
    c.from_residual.result c.in_err-left.field-0.0 c.from_residual.ensures.1
    (c.in_err-left.ensures.fault (calculated c.args.operator))

pub evaluate_index-returns-in_err-sequence : goal.evaluate_index-returns-in_err-sequence
evaluate_index-returns-in_err-sequence t c =
    gives-err (value_of (Index c.args.sequence.now c.args.index.now) c.args.env.now)
    c.from_residual.result c.in_err-sequence.field-0.0 c.from_residual.ensures.1
    (c.in_err-sequence.ensures.fault indexed)

pub evaluate_all-evaluate-requires : goal.evaluate_all-evaluate-requires
evaluate_all-evaluate-requires t c =
    let smaller = expr_size-item c.args.items.now c.loop-item.item-index c.item-item.result c.loop-item-test.true c.item-item.is in
    let falls : 4 * expr_size c.item-item.result < 4 * expr_list_size c.args.items.now = omega (arith, smaller) in
    search rules

pub evaluate_all-returns-in_err-evaluate-clause-fault : goal.evaluate_all-returns-in_err-evaluate-clause-fault
evaluate_all-returns-in_err-evaluate-clause-fault t c =
    let l = c.loop-item in
    let cause = c.in_err-evaluate.field-0.0 in
    if-err c.from_residual.result cause (AllFail (values_of (exprs c.args.items.now) c.args.env.now)) c.from_residual.ensures.1
    (all-fail c.args.items.now l.item-index c.item-item.result c.args.env.now l.found.items cause c.loop-item-test.true
    c.item-item.is l.invariant c.in_err-evaluate.ensures)

pub evaluate_all-loop-item-preserved : goal.evaluate_all-loop-item-preserved
evaluate_all-loop-item-preserved t c =
    let l = c.loop-item in
    let front = take l.item-index c.args.items.now in
    let item = c.item-item.result in
    let more : take (l.item-index + 1) c.args.items.now ≡ front ++ item ∷ [] =
    take_more c.args.items.now l.item-index item c.loop-item-test.true ∙ ap (λ x. front ++ x ∷ []) (sym c.item-item.is) in
    ap (λ items. values_of (exprs items) c.args.env.now) more
    ∙ values_of-push front item c.args.env.now l.found.items c.in_ok-evaluate.field-0 l.invariant c.in_ok-evaluate.ensures
    ∙ ap Ok (sym c.in_ok-push.ensures.items)
