use Rattle.std.proofs.Common.{◌∙◌, sym}
use Rattle.aio_exchange.specs.Follows.{Reach, reach, with_after}
use Rattle.aio_task.specs.View.{View}
use Rattle.aio_child.proofs.Calling.{dropped, writes}
use Rattle.aio_child.proofs.child.Child.write.Goals as goal

pub returns-then-is_closing-clause-follows : goal.returns-then-is_closing-clause-follows
returns-then-is_closing-clause-follows g c =
    let at : Reach View g.row.W.Denot = reach c.args.parts.now c.args.port.now.wire.now c.args.port.now.events.now in
    dropped g.W.Wire.outside c.args.id c.args.self.now c.args.piece.now at (sym c.is_closing.ensures ∙ c.if-is_closing.true)

pub returns-clause-follows : goal.returns-clause-follows
returns-clause-follows g c =
    let old : Reach View g.row.W.Denot = reach c.args.parts.now c.args.port.now.wire.now c.args.port.now.events.now in
    let new : Reach View g.row.W.Denot = reach c.feed.new.parts c.feed.new.port.wire.now c.feed.new.port.events.now in
    writes g.W.Wire.outside c.args.id c.args.self.now c.args.piece.now old new (with_after c.feed.new.self c.feed.result)
    (sym c.is_closing.ensures ∙ c.if-is_closing.false) c.feed.ensures.follows
