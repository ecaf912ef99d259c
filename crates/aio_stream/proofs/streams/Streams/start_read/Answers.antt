use Rattle.std.proofs.Common.{Result, Ok, slice_set, subst}
use Rattle.model_stream.specs.Connections.{Connection, start_read}
use Rattle.model_stream.specs.Doing.{Ends}
use Rattle.model_stream.specs.Streams.{its_connections, on_one}
use Rattle.aio_exchange.proofs.Telling.{tells_end}
use Rattle.aio_change.specs.Seen.{seen_changed}
use Rattle.aio_stream.specs.Kept.{Kept, all_opened}
use Rattle.aio_stream.specs.Standing.{Told}
use Rattle.aio_stream.proofs.Placing.{at_place, past_place, told_absent, told_placed}
use Rattle.aio_stream.proofs.streams.Streams.start_read.Goals as goal

pub returns-in_default-clause-told : goal.returns-in_default-clause-told
returns-in_default-clause-told c v =
    let i = c.self.inside in
    let before : Kept = record { servers = i.servers.items; connections = i.connections.items; opened = all_opened i.opened.items; most = i.most } in
    subst (λ (k : Kept). Told (on_one its_connections c.args.id (λ it. Ends (start_read it))) k before v v) c.self.view_is
    (told_absent before c.args.id (past_place i.connections.items c.args.id c.in_default.ensures.item.3) (λ (it : Connection). Ends (start_read it)) v)

pub returns-clause-told : goal.returns-clause-told
returns-clause-told c v =
    let i = c.self.inside in
    let before : Kept = record { servers = i.servers.items; connections = i.connections.items; opened = all_opened i.opened.items; most = i.most } in
    let done : Result (Unit {0}) (Unit {0}) = Ok tt in
    let there = at_place i.connections.items c.args.id c.in-Some.connection.now c.in-Some.ensures.item.3.0 c.in-Some.ensures.item.1 in
    subst (λ (k : Kept). Told (on_one its_connections c.args.id (λ it. Ends (start_read it))) k
    (record before { connections = slice_set i.connections.items c.args.id c.start_read.new.self }) v v) c.self.view_is
    (told_placed before c.args.id c.in-Some.connection.now c.start_read.new.self there
    (λ (it : Connection). Ends (start_read it)) v v done
    (tells_end seen_changed (start_read c.in-Some.connection.now) c.start_read.new.self v c.start_read.ensures.after))
