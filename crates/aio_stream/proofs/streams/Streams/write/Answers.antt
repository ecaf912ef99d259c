use Rattle.std.proofs.Common.{Ok, slice_set, sym, subst}
use Rattle.model_wire.specs.declared.event.Handed.TheVariants as to
use Rattle.model_stream.specs.declared.answers.Wrote.TheVariants as wrote
use Rattle.model_stream.specs.Requests.{write}
use Rattle.aio_exchange.specs.Follows.{Reach, reach}
use Rattle.aio_task.specs.View.{View}
use Rattle.aio_stream.specs.Kept.{Kept, all_opened}
use Rattle.aio_stream.specs.Owned.{OwnsStreams}
use Rattle.aio_stream.specs.Standing.{Answers}
use Rattle.aio_stream.proofs.Placing.{at_place, own_written, past_place, writes_absent, writes_placed}
use Rattle.aio_stream.proofs.streams.Streams.write.Goals as goal

pub returns-in_default-clause-comes : goal.returns-in_default-clause-comes
returns-in_default-clause-comes g c =
    let old : Reach View g.row.W.Denot = reach c.args.parts.now c.args.port.now.wire.now c.args.port.now.events.now in
    let i = c.self.inside in
    let before : Kept = record { servers = i.servers.items; connections = i.connections.items; opened = all_opened i.opened.items; most = i.most } in
    subst (λ (k : Kept). Answers g.W.Wire.outside (write (to.Conn c.args.id) c.args.piece.now) k before old old (Ok wrote.Done)) c.self.view_is
    (writes_absent before c.args.id (past_place i.connections.items c.args.id c.in_default.ensures.item.3) g.W.Wire.outside c.args.piece.now old)

pub returns-clause-comes : goal.returns-clause-comes
returns-clause-comes g c =
    let old : Reach View g.row.W.Denot = reach c.args.parts.now c.args.port.now.wire.now c.args.port.now.events.now in
    let new : Reach View g.row.W.Denot = reach c.write.new.parts c.write.new.port.wire.now c.write.new.port.events.now in
    let i = c.self.inside in
    let before : Kept = record { servers = i.servers.items; connections = i.connections.items; opened = all_opened i.opened.items; most = i.most } in
    subst (λ (k : Kept). Answers g.W.Wire.outside (write (to.Conn c.args.id) c.args.piece.now) k
    (record before { connections = slice_set i.connections.items c.args.id c.write.new.self }) old new c.write.result)
    c.self.view_is
    (writes_placed before c.args.id c.in-Some.connection.now c.write.new.self
    (at_place i.connections.items c.args.id c.in-Some.connection.now c.in-Some.ensures.item.3.0 c.in-Some.ensures.item.1)
    g.W.Wire.outside c.args.piece.now old new c.write.result c.write.ensures.follows)

pub returns-clause-own : goal.returns-clause-own
returns-clause-own g c =
    let old : Reach View g.row.W.Denot = reach c.args.parts.now c.args.port.now.wire.now c.args.port.now.events.now in
    let new : Reach View g.row.W.Denot = reach c.write.new.parts c.write.new.port.wire.now c.write.new.port.events.now in
    let i = c.self.inside in
    let before : Kept = record { servers = i.servers.items; connections = i.connections.items; opened = all_opened i.opened.items; most = i.most } in
    own_written before c.args.id c.in-Some.connection.now c.write.new.self
    (at_place i.connections.items c.args.id c.in-Some.connection.now c.in-Some.ensures.item.3.0 c.in-Some.ensures.item.1)
    g.W.Wire.outside c.args.piece.now old new c.write.result c.write.ensures.follows c.write.ensures.own
    (subst (OwnsStreams c.args.parts.now) (sym c.self.view_is) c.requires.own)
