use Rattle.std.proofs.Common.{◌≡◌, ◌+◌, ◌++◌, [], ◌∷◌, take, Ok, sym, ap, ◌∙◌}
use Rattle.std.proofs.lemmas.List.{take_more}
use Rattle.model_tree.specs.Syntax.{exprs}
use Rattle.model_says.specs.Expressions.{values_of}
use Rattle.aio_expr.proofs.Evaluated.{values_of-push}
use Rattle.aio_gen.proofs.Values.{values-fail}
use Rattle.aio_gen.proofs.evaluate.values_of.Goals as goal

pub returns-in-Err : goal.returns-in-Err
returns-in-Err c =
    let l = c.loop-item in
    let raised = rw c.in-Err.is at c.in_ok-value.ensures in
    sym
    (values-fail c.args.items.now l.item-index c.item-item.result c.args.env.now l.found.items c.in-Err.fault c.loop-item-test.true
    c.item-item.is l.invariant (sym raised))

pub loop-item-preserved : goal.loop-item-preserved
loop-item-preserved c =
    let l = c.loop-item in
    let front = take l.item-index c.args.items.now in
    let item = c.item-item.result in
    let given = rw c.in-Ok.is at c.in_ok-value.ensures in
    let more : take (l.item-index + 1) c.args.items.now ≡ front ++ item ∷ [] =
    take_more c.args.items.now l.item-index item c.loop-item-test.true ∙ ap (λ x. front ++ x ∷ []) (sym c.item-item.is) in
    ap (λ items. values_of (exprs items) c.args.env.now) more
    ∙ values_of-push front item c.args.env.now l.found.items c.in-Ok.value l.invariant (sym given)
    ∙ ap Ok (sym c.in_ok-push-in-Ok.ensures.items)
