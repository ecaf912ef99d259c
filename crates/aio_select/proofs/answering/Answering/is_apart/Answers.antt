use Rattle.std.proofs.Common.{not, ◌&&◌, sym, ap, ◌∙◌}
use Rattle.std.specs.List.{list_any}
use Rattle.model_wire.specs.Call.{Item}
use Rattle.model_wire.specs.Fits.{clashes}
use Rattle.aio_interest.proofs.Marking.{before_it}
use Rattle.aio_select.proofs.answering.Answering.is_apart.Goals as goal

pub returns-then-awaits : goal.returns-then-awaits
returns-then-awaits c =
    let items = c.args.self.now.items.items in
    ap not (c.is_marked.ensures ∙ sym (before_it c.args.self.now.taken items c.args.self.now.marked c.args.item.now))
    ∙ ap (λ b. b && not (list_any (λ (other : Item). clashes other c.args.item.now) items)) (sym c.if-awaits.true ∙ c.awaits.ensures)
