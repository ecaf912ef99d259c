use Rattle.std.proofs.Common.{◌≡◌, to_z-of_z, sym, ◌∙◌, ap, subst}
use Rattle.model_says.specs.Operations.{bounded, found}
use Rattle.aio_expr.specs.Gives.{Gives}
use Rattle.aio_expr.proofs.Places.{item_at-some, item_at-none}
use Rattle.aio_expr.proofs.items.item_at.Goals as goal

pub returns-in_ok-clone-in-Some : goal.returns-in_ok-clone-in-Some
returns-in_ok-clone-in-Some c =
    let place = (simp (to_z-of_z c.ranges.index) at c.place_of.ensures) in
    let item = item_at-some c.args.items.now c.args.index c.in-Some.place c.index-items-place.result (sym place ∙ c.in-Some.is) in
    let copy : c.in_ok-clone-in-Some.field-0 ≡ c.index-items-place.result = c.in_ok-clone-in-Some.ensures.cases in
    subst (λ answer. Gives answer c.bounded.result) (sym (ap found item ∙ ap bounded (sym c.index-items-place.is ∙ sym copy))) c.bounded.ensures

pub returns-in-None : goal.returns-in-None
returns-in-None c =
    let place = (simp (to_z-of_z c.ranges.index) at c.place_of.ensures) in
    ap found (item_at-none c.args.items.now c.args.index (sym place ∙ c.in-None.is))
