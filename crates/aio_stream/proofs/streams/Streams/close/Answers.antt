use Rattle.std.proofs.Common.{OnOk, slice_set, sym, subst}
use Rattle.std.proofs.lemmas.Result.{on_ok_weaker}
use Rattle.model_stream.specs.Connections as connection
use Rattle.model_wire.specs.declared.event.Handed.TheVariants as to
use Rattle.model_stream.specs.Requests as requests
use Rattle.aio_stream.specs.Kept.{Kept, all_opened}
use Rattle.aio_stream.specs.Owned.{OwnsStreams}
use Rattle.aio_stream.specs.Standing.{Told}
use Rattle.aio_stream.proofs.Placing.{at_place, own_at, own_told, past_place, told_absent, told_placed}
use Rattle.aio_stream.proofs.streams.Streams.close.Goals as goal

pub returns-in_default-clause-told : goal.returns-in_default-clause-told
returns-in_default-clause-told c =
    let i = c.self.inside in
    let before : Kept = record { servers = i.servers.items; connections = i.connections.items; opened = all_opened i.opened.items; most = i.most } in
    subst (λ (k : Kept). Told (requests.close (to.Conn c.args.id)) k before c.args.parts.now c.args.parts.now) c.self.view_is
    (told_absent before c.args.id (past_place i.connections.items c.args.id c.in_default.ensures.item.3) (connection.close c.args.id) c.args.parts.now)

pub returns-clause-told : goal.returns-clause-told
returns-clause-told c =
    let i = c.self.inside in
    let before : Kept = record { servers = i.servers.items; connections = i.connections.items; opened = all_opened i.opened.items; most = i.most } in
    subst (λ (k : Kept). OnOk c.close.result (Told (requests.close (to.Conn c.args.id)) k
    (record before { connections = slice_set i.connections.items c.args.id c.close.new.self }) c.args.parts.now c.close.new.parts))
    c.self.view_is
    (told_placed before c.args.id c.in-Some.connection.now c.close.new.self
    (at_place i.connections.items c.args.id c.in-Some.connection.now c.in-Some.ensures.item.3.0 c.in-Some.ensures.item.1)
    (connection.close c.args.id) c.args.parts.now c.close.new.parts c.close.result c.close.ensures.tells)

pub returns-clause-own : goal.returns-clause-own
returns-clause-own c =
    let i = c.self.inside in
    let before : Kept = record { servers = i.servers.items; connections = i.connections.items; opened = all_opened i.opened.items; most = i.most } in
    own_told before c.args.id c.in-Some.connection.now c.close.new.self
    (at_place i.connections.items c.args.id c.in-Some.connection.now c.in-Some.ensures.item.3.0 c.in-Some.ensures.item.1)
    (connection.close c.args.id) c.args.parts.now c.close.new.parts c.close.result c.close.ensures.tells (on_ok_weaker c.close.result
    (λ keeps. keeps (own_at c.args.parts.now i.connections.items c.args.id c.in-Some.connection.now
    (at_place i.connections.items c.args.id c.in-Some.connection.now c.in-Some.ensures.item.3.0 c.in-Some.ensures.item.1)
    (subst (OwnsStreams c.args.parts.now) (sym c.self.view_is) c.requires.own))) c.close.ensures.own)
    (subst (OwnsStreams c.args.parts.now) (sym c.self.view_is) c.requires.own)
