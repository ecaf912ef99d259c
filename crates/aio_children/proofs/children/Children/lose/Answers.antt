use Rattle.std.proofs.Common.{Ok, slice_set, sym, subst}
use Rattle.model_stream.specs.Children.{lose_child}
use Rattle.model_stream.specs.Streams.{its_children, on_one}
use Rattle.aio_exchange.specs.Follows.{Reach, reach}
use Rattle.aio_task.specs.View.{View}
use Rattle.aio_children.specs.Kept.{Kept}
use Rattle.aio_children.specs.Owned.{OwnsChildren}
use Rattle.aio_children.specs.Standing.{Comes}
use Rattle.aio_children.proofs.Placing.{at_place, comes_absent, comes_placed, own_at, own_placed, past_place}
use Rattle.aio_children.proofs.children.Children.lose.Goals as goal

pub returns-in_default-clause-comes : goal.returns-in_default-clause-comes
returns-in_default-clause-comes g c =
    let old : Reach View g.row.W.Denot = reach c.args.parts.now c.args.port.now.wire.now c.args.port.now.events.now in
    let i = c.self.inside in
    let before : Kept = record { children = i.children.items; most = i.most } in
    let nothing : Unit {0} = tt in
    subst (λ (k : Kept). Comes {R = Unit {0}} g.W.Wire.outside (on_one its_children c.args.id (lose_child c.args.id c.args.broken)) k before old old
    (Ok tt)) c.self.view_is
    (comes_absent before c.args.id (past_place i.children.items c.args.id c.in_default.ensures.item.3) g.W.Wire.outside
    (lose_child c.args.id c.args.broken) old nothing)

pub lose-requires-clause-own : goal.lose-requires-clause-own
lose-requires-clause-own g c =
    let i = c.self.inside in
    let before : Kept = record { children = i.children.items; most = i.most } in
    own_at c.args.parts.now i.children.items c.args.id c.in-Some.child.now
    (at_place i.children.items c.args.id c.in-Some.child.now c.in-Some.ensures.item.3.0 c.in-Some.ensures.item.1)
    (subst (OwnsChildren c.args.parts.now) (sym c.self.view_is) c.requires.own)

pub returns-clause-comes : goal.returns-clause-comes
returns-clause-comes g c =
    let old : Reach View g.row.W.Denot = reach c.args.parts.now c.args.port.now.wire.now c.args.port.now.events.now in
    let new : Reach View g.row.W.Denot = reach c.lose.new.parts c.lose.new.port.wire.now c.lose.new.port.events.now in
    let i = c.self.inside in
    let before : Kept = record { children = i.children.items; most = i.most } in
    subst (λ (k : Kept). Comes g.W.Wire.outside (on_one its_children c.args.id (lose_child c.args.id c.args.broken)) k
    (record before { children = slice_set i.children.items c.args.id c.lose.new.self }) old new c.lose.result)
    c.self.view_is
    (comes_placed before c.args.id c.in-Some.child.now c.lose.new.self
    (at_place i.children.items c.args.id c.in-Some.child.now c.in-Some.ensures.item.3.0 c.in-Some.ensures.item.1)
    g.W.Wire.outside (lose_child c.args.id c.args.broken) old new c.lose.result c.lose.ensures.follows)

pub returns-clause-own : goal.returns-clause-own
returns-clause-own g c =
    let old : Reach View g.row.W.Denot = reach c.args.parts.now c.args.port.now.wire.now c.args.port.now.events.now in
    let new : Reach View g.row.W.Denot = reach c.lose.new.parts c.lose.new.port.wire.now c.lose.new.port.events.now in
    let i = c.self.inside in
    let before : Kept = record { children = i.children.items; most = i.most } in
    own_placed before c.args.id c.in-Some.child.now c.lose.new.self
    (at_place i.children.items c.args.id c.in-Some.child.now c.in-Some.ensures.item.3.0 c.in-Some.ensures.item.1)
    g.W.Wire.outside (lose_child c.args.id c.args.broken) old new c.lose.result c.lose.ensures.follows c.lose.ensures.own
    (subst (OwnsChildren c.args.parts.now) (sym c.self.view_is) c.requires.own)
