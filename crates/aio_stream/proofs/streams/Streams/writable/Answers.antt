use Rattle.std.proofs.Common.{Ok, slice_set, sym, subst}
use Rattle.model_stream.specs.Connections.{writable}
use Rattle.model_stream.specs.Streams.{its_connections, on_one}
use Rattle.aio_exchange.specs.Follows.{Reach, reach}
use Rattle.aio_task.specs.View.{View}
use Rattle.aio_stream.specs.Kept.{Kept, all_opened}
use Rattle.aio_stream.specs.Owned.{OwnsStreams}
use Rattle.aio_stream.specs.Standing.{Comes}
use Rattle.aio_stream.proofs.Placing.{at_place, comes_absent, comes_placed, own_at, own_placed, past_place}
use Rattle.aio_stream.proofs.streams.Streams.writable.Goals as goal

pub returns-in_default-clause-comes : goal.returns-in_default-clause-comes
returns-in_default-clause-comes g c =
    let old : Reach View g.row.W.Denot = reach c.args.parts.now c.args.port.now.wire.now c.args.port.now.events.now in
    let i = c.self.inside in
    let before : Kept = record { servers = i.servers.items; connections = i.connections.items; opened = all_opened i.opened.items; most = i.most } in
    let nothing : Unit {0} = tt in
    subst (λ (k : Kept). Comes {R = Unit {0}} g.W.Wire.outside (on_one its_connections c.args.id (writable c.args.id)) k before old old (Ok tt)) c.self.view_is
    (comes_absent before c.args.id (past_place i.connections.items c.args.id c.in_default.ensures.item.3) g.W.Wire.outside
    (writable c.args.id) old nothing)

pub writable-requires-clause-own : goal.writable-requires-clause-own
writable-requires-clause-own g c =
    let i = c.self.inside in
    let before : Kept = record { servers = i.servers.items; connections = i.connections.items; opened = all_opened i.opened.items; most = i.most } in
    own_at c.args.parts.now i.connections.items c.args.id c.in-Some.connection.now
    (at_place i.connections.items c.args.id c.in-Some.connection.now c.in-Some.ensures.item.3.0 c.in-Some.ensures.item.1)
    (subst (OwnsStreams c.args.parts.now) (sym c.self.view_is) c.requires.own)

pub returns-clause-comes : goal.returns-clause-comes
returns-clause-comes g c =
    let old : Reach View g.row.W.Denot = reach c.args.parts.now c.args.port.now.wire.now c.args.port.now.events.now in
    let new : Reach View g.row.W.Denot = reach c.writable.new.parts c.writable.new.port.wire.now c.writable.new.port.events.now in
    let i = c.self.inside in
    let before : Kept = record { servers = i.servers.items; connections = i.connections.items; opened = all_opened i.opened.items; most = i.most } in
    subst (λ (k : Kept). Comes g.W.Wire.outside (on_one its_connections c.args.id (writable c.args.id)) k
    (record before { connections = slice_set i.connections.items c.args.id c.writable.new.self }) old new c.writable.result)
    c.self.view_is
    (comes_placed before c.args.id c.in-Some.connection.now c.writable.new.self
    (at_place i.connections.items c.args.id c.in-Some.connection.now c.in-Some.ensures.item.3.0 c.in-Some.ensures.item.1)
    g.W.Wire.outside (writable c.args.id) old new c.writable.result c.writable.ensures.follows)

pub returns-clause-own : goal.returns-clause-own
returns-clause-own g c =
    let old : Reach View g.row.W.Denot = reach c.args.parts.now c.args.port.now.wire.now c.args.port.now.events.now in
    let new : Reach View g.row.W.Denot = reach c.writable.new.parts c.writable.new.port.wire.now c.writable.new.port.events.now in
    let i = c.self.inside in
    let before : Kept = record { servers = i.servers.items; connections = i.connections.items; opened = all_opened i.opened.items; most = i.most } in
    own_placed before c.args.id c.in-Some.connection.now c.writable.new.self
    (at_place i.connections.items c.args.id c.in-Some.connection.now c.in-Some.ensures.item.3.0 c.in-Some.ensures.item.1)
    g.W.Wire.outside (writable c.args.id) old new c.writable.result c.writable.ensures.follows c.writable.ensures.own
    (subst (OwnsStreams c.args.parts.now) (sym c.self.view_is) c.requires.own)
