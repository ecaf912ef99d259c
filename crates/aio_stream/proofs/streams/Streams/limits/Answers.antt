use Rattle.std.proofs.Common.{Result, Ok, slice_set, sym, subst}
use Rattle.model_stream.specs.declared.put.Limited.{Limited}
use Rattle.model_stream.specs.declared.put.Limited.TheVariants as limited
use Rattle.model_stream.specs.Connections.{Connection, limits_of}
use Rattle.model_stream.specs.Doing.{Doing}
use Rattle.model_stream.specs.Requests.{asked_one}
use Rattle.model_stream.specs.Streams.{its_connections}
use Rattle.aio_exchange.specs.Tells.{Tells}
use Rattle.aio_exchange.proofs.Telling.{tells_ends}
use Rattle.aio_change.specs.Seen.{seen_changed}
use Rattle.aio_stream.specs.Kept.{Kept, all_opened}
use Rattle.aio_stream.specs.Standing.{ToldWith}
use Rattle.aio_stream.proofs.Placing.{at_place, past_place, said_absent, said_placed}
use Rattle.aio_stream.proofs.streams.Streams.limits.Goals as goal

pub returns-in_default-clause-told : goal.returns-in_default-clause-told
returns-in_default-clause-told c v =
    let i = c.self.inside in
    let before : Kept = record { servers = i.servers.items; connections = i.connections.items; opened = all_opened i.opened.items; most = i.most } in
    subst (λ (k : Kept). ToldWith (asked_one its_connections limited.Set c.args.id (limits_of c.args.high c.args.low)) k before v v limited.Set)
    c.self.view_is
    (said_absent before c.args.id (past_place i.connections.items c.args.id c.in_default.ensures.item.3) limited.Set
    (limits_of c.args.high c.args.low) v)

pub returns-clause-told : goal.returns-clause-told
returns-clause-told c v =
    let i = c.self.inside in
    let before : Kept = record { servers = i.servers.items; connections = i.connections.items; opened = all_opened i.opened.items; most = i.most } in
    let after = c.limits.new.self in
    let there = at_place i.connections.items c.args.id c.in-Some.connection.now c.in-Some.ensures.item.3.0 c.in-Some.ensures.item.1 in
    let done : Result Limited (Unit {0}) = Ok c.limits.result in
    subst (λ (k : Kept). ToldWith (asked_one its_connections limited.Set c.args.id (limits_of c.args.high c.args.low)) k
    (record before { connections = slice_set i.connections.items c.args.id after }) v v c.limits.result) c.self.view_is
    (said_placed before c.args.id c.in-Some.connection.now after there limited.Set (limits_of c.args.high c.args.low) (λ (it : Limited). it) v v done
    (subst (λ (d : Doing (Connection × Limited)). Tells seen_changed d v v (after, c.limits.result)) (sym c.limits.ensures.is)
    (tells_ends seen_changed {A = Connection × Limited} (after, c.limits.result) v)))
