-- The depth so far becomes the item's where that is greater.
use Rattle.std.proofs.Common.{◌≡◌, ◌+◌, ◌++◌, [], ◌∷◌, take, ap, sym, ◌∙◌, max, arith}
use Rattle.std.proofs.lemmas.List.{take_more}
use Rattle.model_value.specs.Value.{values}
use Rattle.model_value.specs.Depth.{depth_of, items_depth}
use Rattle.law_value.proofs.Depths.{items_depth-push}
use Rattle.aio_base.proofs.nesting.depth_of_all.Goals as goal

pub loop-item-preserved : goal.loop-item-preserved
loop-item-preserved c =
    let l = c.loop-item in
    let front = take l.item-index c.args.items.now in
    let item = c.item-item.result in
    let more : take (l.item-index + 1) c.args.items.now ≡ front ++ item ∷ [] =
    take_more c.args.items.now l.item-index item c.loop-item-test.true ∙ ap (λ x. front ++ x ∷ []) (sym c.item-item.is) in
    let grown : items_depth (values (take (l.item-index + 1) c.args.items.now)) ≡ max (items_depth (values front)) (depth_of item) =
    ap (λ vs. items_depth (values vs)) more ∙ items_depth-push front item in
    omega arith
