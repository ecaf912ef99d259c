use Rattle.std.proofs.Common.{Ok, slice_set, sym, subst}
use Rattle.model_wire.specs.declared.event.Handed.TheVariants as to
use Rattle.model_stream.specs.declared.answers.Wrote.TheVariants as wrote
use Rattle.model_stream.specs.Requests.{write}
use Rattle.aio_exchange.specs.Follows.{Reach, reach}
use Rattle.aio_task.specs.View.{View}
use Rattle.aio_children.specs.Kept.{Kept}
use Rattle.aio_children.specs.Owned.{OwnsChildren}
use Rattle.aio_children.specs.Standing.{Answers}
use Rattle.aio_children.proofs.Placing.{at_place, own_written, past_place, writes_absent, writes_placed}
use Rattle.aio_children.proofs.children.Children.write.Goals as goal

pub returns-in_default-clause-comes : goal.returns-in_default-clause-comes
returns-in_default-clause-comes g c =
    let old : Reach View g.row.W.Denot = reach c.args.parts.now c.args.port.now.wire.now c.args.port.now.events.now in
    let i = c.self.inside in
    let before : Kept = record { children = i.children.items; most = i.most } in
    subst (λ (k : Kept). Answers g.W.Wire.outside (write (to.Child c.args.id) c.args.piece.now) k before old old (Ok wrote.Done)) c.self.view_is
    (writes_absent before c.args.id (past_place i.children.items c.args.id c.in_default.ensures.item.3) g.W.Wire.outside c.args.piece.now old)

pub returns-clause-comes : goal.returns-clause-comes
returns-clause-comes g c =
    let old : Reach View g.row.W.Denot = reach c.args.parts.now c.args.port.now.wire.now c.args.port.now.events.now in
    let new : Reach View g.row.W.Denot = reach c.write.new.parts c.write.new.port.wire.now c.write.new.port.events.now in
    let i = c.self.inside in
    let before : Kept = record { children = i.children.items; most = i.most } in
    subst (λ (k : Kept). Answers g.W.Wire.outside (write (to.Child c.args.id) c.args.piece.now) k
    (record before { children = slice_set i.children.items c.args.id c.write.new.self }) old new c.write.result)
    c.self.view_is
    (writes_placed before c.args.id c.in-Some.child.now c.write.new.self
    (at_place i.children.items c.args.id c.in-Some.child.now c.in-Some.ensures.item.3.0 c.in-Some.ensures.item.1)
    g.W.Wire.outside c.args.piece.now old new c.write.result c.write.ensures.follows)

pub returns-clause-own : goal.returns-clause-own
returns-clause-own g c =
    let old : Reach View g.row.W.Denot = reach c.args.parts.now c.args.port.now.wire.now c.args.port.now.events.now in
    let new : Reach View g.row.W.Denot = reach c.write.new.parts c.write.new.port.wire.now c.write.new.port.events.now in
    let i = c.self.inside in
    let before : Kept = record { children = i.children.items; most = i.most } in
    own_written before c.args.id c.in-Some.child.now c.write.new.self
    (at_place i.children.items c.args.id c.in-Some.child.now c.in-Some.ensures.item.3.0 c.in-Some.ensures.item.1)
    g.W.Wire.outside c.args.piece.now old new c.write.result c.write.ensures.follows c.write.ensures.own
    (subst (OwnsChildren c.args.parts.now) (sym c.self.view_is) c.requires.own)
