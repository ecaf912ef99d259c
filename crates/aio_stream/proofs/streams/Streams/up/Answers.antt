use Rattle.std.proofs.Common.{OnOk, slice_set, sym, subst}
use Rattle.model_stream.specs.Connections.{up}
use Rattle.model_stream.specs.Streams.{its_connections, on_one}
use Rattle.aio_stream.specs.Kept.{Kept, all_opened}
use Rattle.aio_stream.specs.Owned.{OwnsStreams}
use Rattle.aio_stream.specs.Standing.{Told}
use Rattle.aio_stream.proofs.Placing.{at_place, own_at, own_told, past_place, told_absent, told_placed}
use Rattle.aio_stream.proofs.streams.Streams.up.Goals as goal

pub returns-in_default-clause-told : goal.returns-in_default-clause-told
returns-in_default-clause-told c =
    let i = c.self.inside in
    let before : Kept = record { servers = i.servers.items; connections = i.connections.items; opened = all_opened i.opened.items; most = i.most } in
    subst (λ (k : Kept). Told (on_one its_connections c.args.id (up c.args.id)) k before c.args.parts.now c.args.parts.now) c.self.view_is
    (told_absent before c.args.id (past_place i.connections.items c.args.id c.in_default.ensures.item.3) (up c.args.id) c.args.parts.now)

pub up-requires-clause-own : goal.up-requires-clause-own
up-requires-clause-own c =
    let i = c.self.inside in
    let before : Kept = record { servers = i.servers.items; connections = i.connections.items; opened = all_opened i.opened.items; most = i.most } in
    own_at c.args.parts.now i.connections.items c.args.id c.in-Some.connection.now
    (at_place i.connections.items c.args.id c.in-Some.connection.now c.in-Some.ensures.item.3.0 c.in-Some.ensures.item.1)
    (subst (OwnsStreams c.args.parts.now) (sym c.self.view_is) c.requires.own)

pub returns-clause-told : goal.returns-clause-told
returns-clause-told c =
    let i = c.self.inside in
    let before : Kept = record { servers = i.servers.items; connections = i.connections.items; opened = all_opened i.opened.items; most = i.most } in
    subst (λ (k : Kept). OnOk c.up.result (Told (on_one its_connections c.args.id (up c.args.id)) k
    (record before { connections = slice_set i.connections.items c.args.id c.up.new.self }) c.args.parts.now c.up.new.parts))
    c.self.view_is
    (told_placed before c.args.id c.in-Some.connection.now c.up.new.self
    (at_place i.connections.items c.args.id c.in-Some.connection.now c.in-Some.ensures.item.3.0 c.in-Some.ensures.item.1)
    (up c.args.id) c.args.parts.now c.up.new.parts c.up.result c.up.ensures.tells)

pub returns-clause-own : goal.returns-clause-own
returns-clause-own c =
    let i = c.self.inside in
    let before : Kept = record { servers = i.servers.items; connections = i.connections.items; opened = all_opened i.opened.items; most = i.most } in
    own_told before c.args.id c.in-Some.connection.now c.up.new.self
    (at_place i.connections.items c.args.id c.in-Some.connection.now c.in-Some.ensures.item.3.0 c.in-Some.ensures.item.1)
    (up c.args.id) c.args.parts.now c.up.new.parts c.up.result c.up.ensures.tells c.up.ensures.own
    (subst (OwnsStreams c.args.parts.now) (sym c.self.view_is) c.requires.own)
