use Rattle.std.proofs.Common.{◌&&◌, refl, sym, ap, ◌∙◌}
use Rattle.model_wire.specs.Fits.{is_piece}
use Rattle.aio_interest.proofs.Marking.{news_awaited}
use Rattle.aio_interest.proofs.watching.Watching.awaits.Goals as goal

pub returns-then-is_marked : goal.returns-then-is_marked
returns-then-is_marked c =
    ap (λ b. b && c.is_piece.result) (sym c.if-is_marked.true)
    ∙ news_awaited c.self.inside.awaited c.self.inside.entries.items c.args.self.now c.self.invariant c.self.view_is c.args.item.now
    c.in-Child.child c.in-Child.news c.in-Child.is c.is_marked-in-Child.result c.is_piece.result c.is_marked-in-Child.ensures c.is_piece.ensures

pub returns-else-is_marked : goal.returns-else-is_marked
returns-else-is_marked c =
    c.if-is_marked.false
    ∙ ap (λ b. b && is_piece c.in-Child.news) (sym c.if-is_marked.false)
    ∙ news_awaited c.self.inside.awaited c.self.inside.entries.items c.args.self.now c.self.invariant c.self.view_is c.args.item.now
    c.in-Child.child c.in-Child.news c.in-Child.is c.is_marked-in-Child.result (is_piece c.in-Child.news) c.is_marked-in-Child.ensures refl
