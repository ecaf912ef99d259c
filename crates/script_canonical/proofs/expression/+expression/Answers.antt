-- Each item is smaller than the list, and the text so far grows by what stands before the item and by the item's.
use Rattle.std.proofs.Common.{rules, ◌≡◌, ◌+◌, ◌*◌, ◌<◌, ◌++◌, [], ◌∷◌, take, ap, sym, ◌∙◌, append_assoc, arith}
use Rattle.std.proofs.lemmas.List.{take_more}
use Rattle.law_value.proofs.Joined.{separator-push}
use Rattle.aio_syntax.specs.ExprSize.{expr_size, expr_list_size}
use Rattle.aio_syntax.proofs.Sizes.{expr_size-item}
use Rattle.script_canonical.proofs.Joined.{exprs_text-push}
use Rattle.script_canonical.proofs.expression.+expression.Goals as goal

pub push_exprs-push_expr-requires : goal.push_exprs-push_expr-requires
push_exprs-push_expr-requires t c =
    let smaller = expr_size-item c.args.items.now c.loop-item.item-index c.item-item.result c.loop-item-test.true c.item-item.is in
    let falls : 4 * expr_size c.item-item.result < 4 * expr_list_size c.args.items.now = omega (arith, smaller) in
    search rules

pub push_exprs-loop-item-preserved : goal.push_exprs-loop-item-preserved
push_exprs-loop-item-preserved t c =
    let l = c.loop-item in
    let front = take l.item-index c.args.items.now in
    let item = c.item-item.result in
    let more : take (l.item-index + 1) c.args.items.now ≡ front ++ item ∷ [] =
    take_more c.args.items.now l.item-index item c.loop-item-test.true ∙ ap (λ x. front ++ x ∷ []) (sym c.item-item.is) in
    rw more (
      rw exprs_text-push (simp (c.in_ok-push_expr.ensures, c.in_ok-extend_from_slice.ensures.items, l.invariant.0, l.invariant.1, append_assoc)),
      sym (separator-push front item),
    )
