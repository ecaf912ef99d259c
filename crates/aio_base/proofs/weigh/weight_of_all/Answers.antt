-- The total so far grows by the item's weight, up to the cap.
use Rattle.std.proofs.Common.{◌≡◌, ◌+◌, ◌++◌, [], ◌∷◌, take, ap, sym, ◌∙◌, arith}
use Rattle.std.proofs.lemmas.List.{take_more}
use Rattle.model_value.specs.Value.{values}
use Rattle.model_value.specs.Weight.{weight_of, items_weight}
use Rattle.law_value.proofs.Weights.{items_weight-push}
use Rattle.aio_base.proofs.weigh.weight_of_all.Goals as goal

pub loop-item-preserved : goal.loop-item-preserved
loop-item-preserved c =
    let l = c.loop-item in
    let front = take l.item-index c.args.items.now in
    let item = c.item-item.result in
    let more : take (l.item-index + 1) c.args.items.now ≡ front ++ item ∷ [] =
    take_more c.args.items.now l.item-index item c.loop-item-test.true ∙ ap (λ x. front ++ x ∷ []) (sym c.item-item.is) in
    let grown : items_weight (values (take (l.item-index + 1) c.args.items.now)) ≡ items_weight (values front) + weight_of item =
    ap (λ vs. items_weight (values vs)) more ∙ items_weight-push front item in
    omega arith
