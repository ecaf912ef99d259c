use Rattle.std.proofs.Common.{◌&&◌, sym, ap, ◌∙◌}
use Rattle.aio_select.specs.Room.{has_room}
use Rattle.aio_select.proofs.Growing.{fits_more}
use Rattle.aio_select.proofs.answering.Answering.has_place_for.Goals as goal

pub returns-then-is_apart : goal.returns-then-is_apart
returns-then-is_apart c =
    let items = c.args.self.now.items.items in
    c.has_room_for.ensures ∙ ap (λ b. b && has_room items c.args.item.now) (sym c.if-is_apart.true ∙ c.is_apart.ensures)
    ∙ fits_more c.args.watch.now items c.args.item.now c.requires

pub returns-else-is_apart : goal.returns-else-is_apart
returns-else-is_apart c =
    let items = c.args.self.now.items.items in
    c.if-is_apart.false ∙ ap (λ b. b && has_room items c.args.item.now) (sym c.if-is_apart.false ∙ c.is_apart.ensures)
    ∙ fits_more c.args.watch.now items c.args.item.now c.requires
