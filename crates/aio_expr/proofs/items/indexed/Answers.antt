use Rattle.std.proofs.Common.{rules, FitsSigned, w64, to_z-of_z, sym, ◌∙◌, ap₂, subst}
use Rattle.model_says.specs.Operations.{found, item_at}
use Rattle.aio_expr.specs.Gives.{Gives}
use Rattle.aio_expr.proofs.Places.{indexed-list}
use Rattle.aio_expr.proofs.items.indexed.Goals as goal

pub returns-in-List-Int : goal.returns-in-List-Int
returns-in-List-Int c =
    let fits : FitsSigned w64 c.in-List-Int.index = search rules in
    let items = c.items.ensures ∙ c.as_ref.ensures in
    let meaning =
    indexed-list c.args.sequence.now c.args.index.now c.in-List-Int.list.now.value c.in-List-Int.index
    (sym c.in-List-Int.ensures) (sym c.in-List-Int.ensures') in
    subst (λ answer. Gives answer c.item_at.result) (sym (meaning ∙ sym (ap₂ (λ xs z. found (item_at xs z)) items (to_z-of_z fits)))) c.item_at.ensures
