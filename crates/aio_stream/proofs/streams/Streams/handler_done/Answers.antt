use Rattle.std.proofs.Common.{OnOk, slice_set, sym, subst}
use Rattle.std.proofs.lemmas.Result.{on_ok_weaker}
use Rattle.model_stream.specs.Connections.{handler_done}
use Rattle.model_stream.specs.Streams.{its_connections, on_one}
use Rattle.aio_stream.specs.Kept.{Kept, all_opened}
use Rattle.aio_stream.specs.Owned.{OwnsStreams}
use Rattle.aio_stream.specs.Standing.{Told}
use Rattle.aio_stream.proofs.Placing.{at_place, own_at, own_told, past_place, told_absent, told_placed}
use Rattle.aio_stream.proofs.streams.Streams.handler_done.Goals as goal

pub returns-in_default-clause-told : goal.returns-in_default-clause-told
returns-in_default-clause-told c =
    let i = c.self.inside in
    let before : Kept = record { servers = i.servers.items; connections = i.connections.items; opened = all_opened i.opened.items; most = i.most } in
    subst (λ (k : Kept). Told (on_one its_connections c.args.id
    (handler_done c.args.id c.args.returned)) k before c.args.parts.now c.args.parts.now) c.self.view_is
    (told_absent before c.args.id (past_place i.connections.items c.args.id c.in_default.ensures.item.3)
    (handler_done c.args.id c.args.returned) c.args.parts.now)

pub returns-clause-told : goal.returns-clause-told
returns-clause-told c =
    let i = c.self.inside in
    let before : Kept = record { servers = i.servers.items; connections = i.connections.items; opened = all_opened i.opened.items; most = i.most } in
    subst (λ (k : Kept). OnOk c.handler_done.result (Told (on_one its_connections c.args.id (handler_done c.args.id c.args.returned)) k
    (record before { connections = slice_set i.connections.items c.args.id c.handler_done.new.self }) c.args.parts.now c.handler_done.new.parts))
    c.self.view_is
    (told_placed before c.args.id c.in-Some.connection.now c.handler_done.new.self
    (at_place i.connections.items c.args.id c.in-Some.connection.now c.in-Some.ensures.item.3.0 c.in-Some.ensures.item.1)
    (handler_done c.args.id c.args.returned) c.args.parts.now c.handler_done.new.parts c.handler_done.result c.handler_done.ensures.tells)

pub returns-clause-own : goal.returns-clause-own
returns-clause-own c =
    let i = c.self.inside in
    let before : Kept = record { servers = i.servers.items; connections = i.connections.items; opened = all_opened i.opened.items; most = i.most } in
    own_told before c.args.id c.in-Some.connection.now c.handler_done.new.self
    (at_place i.connections.items c.args.id c.in-Some.connection.now c.in-Some.ensures.item.3.0 c.in-Some.ensures.item.1)
    (handler_done c.args.id c.args.returned) c.args.parts.now c.handler_done.new.parts c.handler_done.result c.handler_done.ensures.tells
    (on_ok_weaker c.handler_done.result (λ keeps. keeps (own_at c.args.parts.now i.connections.items c.args.id c.in-Some.connection.now
    (at_place i.connections.items c.args.id c.in-Some.connection.now c.in-Some.ensures.item.3.0 c.in-Some.ensures.item.1)
    (subst (OwnsStreams c.args.parts.now) (sym c.self.view_is) c.requires.own))) c.handler_done.ensures.own)
    (subst (OwnsStreams c.args.parts.now) (sym c.self.view_is) c.requires.own)
