use Rattle.std.proofs.Common.{rules, ◌≡◌, ◌++◌, ap, ◌∙◌, sym, Ok, arith}
use Rattle.model_value.specs.Value.{Items, values}
use Rattle.aio_base.proofs.Joined.{items_weight-append, items_depth-append}
use Rattle.aio_expr.proofs.InBounds.{too_heavy, too_deep, in_bounds}
use Rattle.aio_expr.proofs.items.joined_lists.Goals as goal

pub returns-then-saturating_add-ge-HEAVIEST : goal.returns-then-saturating_add-ge-HEAVIEST
returns-then-saturating_add-ge-HEAVIEST c =
    too_heavy (Items (values (c.args.front.now ++ c.args.back.now))) (omega (arith, items_weight-append c.args.front.now c.args.back.now))

pub returns-then-max-ge-DEEPEST : goal.returns-then-max-ge-DEEPEST
returns-then-max-ge-DEEPEST c =
    too_deep (Items (values (c.args.front.now ++ c.args.back.now))) (omega (arith, items_depth-append c.args.front.now c.args.back.now))

pub returns : goal.returns
returns c =
    let joined = Items (values (c.args.front.now ++ c.args.back.now)) in
    let list : c.in_ok-list_joined.field-0 ≡ joined = search rules in
    in_bounds joined (omega (arith, items_weight-append c.args.front.now c.args.back.now)) (omega (arith, items_depth-append c.args.front.now c.args.back.now))
    ∙ ap Ok (sym list)
