use Rattle.std.proofs.Common.{[], IfOk, length, slice_set, sym, subst}
use Rattle.model_stream.specs.declared.answers.StreamGot.TheVariants as got_as
use Rattle.model_stream.specs.Connections.{its_receiver}
use Rattle.model_stream.specs.Doing.{asked_on}
use Rattle.model_stream.specs.Receivers as receivers
use Rattle.model_stream.specs.Requests as requests
use Rattle.aio_connection.specs.Gotten.{all_got}
use Rattle.aio_stream.specs.Kept.{Kept, all_opened}
use Rattle.aio_stream.specs.Owned.{OwnsStreams}
use Rattle.aio_stream.specs.Standing.{ToldWith}
use Rattle.aio_stream.proofs.Placing.{at_place, own_said, past_place, said_absent, said_placed}
use Rattle.aio_stream.proofs.streams.Streams.read_all.Goals as goal

pub returns-in_default-clause-told : goal.returns-in_default-clause-told
returns-in_default-clause-told c =
    let i = c.self.inside in
    let before : Kept = record { servers = i.servers.items; connections = i.connections.items; opened = all_opened i.opened.items; most = i.most } in
    subst (λ (k : Kept). ToldWith (requests.read_all (length c.args.parts.now.futures)
    (requests.OfConn c.args.id)) k before c.args.parts.now c.args.parts.now (all_got c.nothing_taken.result)) c.self.view_is
    (subst (λ (it : receivers.AllGot). ToldWith (requests.read_all (length c.args.parts.now.futures)
    (requests.OfConn c.args.id)) before before c.args.parts.now c.args.parts.now it) (sym c.nothing_taken.ensures)
    (said_absent before c.args.id (past_place i.connections.items c.args.id c.in_default.ensures.item.3)
    (record { taken = []; got = got_as.Bytes [] }) (asked_on its_receiver (receivers.read_all (length c.args.parts.now.futures))) c.args.parts.now))

pub returns-clause-told : goal.returns-clause-told
returns-clause-told c =
    let i = c.self.inside in
    let before : Kept = record { servers = i.servers.items; connections = i.connections.items; opened = all_opened i.opened.items; most = i.most } in
    subst (λ (k : Kept). IfOk c.read_all.result (λ said. ToldWith (requests.read_all (length c.args.parts.now.futures) (requests.OfConn c.args.id)) k
    (record before { connections = slice_set i.connections.items c.args.id c.read_all.new.self }) c.args.parts.now c.read_all.new.parts (all_got said)))
    c.self.view_is
    (said_placed before c.args.id c.in-Some.connection.now c.read_all.new.self
    (at_place i.connections.items c.args.id c.in-Some.connection.now c.in-Some.ensures.item.3.0 c.in-Some.ensures.item.1)
    (record { taken = []; got = got_as.Bytes [] }) (asked_on its_receiver (receivers.read_all
    (length c.args.parts.now.futures))) all_got c.args.parts.now c.read_all.new.parts c.read_all.result c.read_all.ensures.tells)

pub returns-clause-own : goal.returns-clause-own
returns-clause-own c =
    let i = c.self.inside in
    let before : Kept = record { servers = i.servers.items; connections = i.connections.items; opened = all_opened i.opened.items; most = i.most } in
    own_said before c.args.id c.in-Some.connection.now c.read_all.new.self
    (at_place i.connections.items c.args.id c.in-Some.connection.now c.in-Some.ensures.item.3.0 c.in-Some.ensures.item.1)
    (record { taken = []; got = got_as.Bytes [] }) (asked_on its_receiver (receivers.read_all
    (length c.args.parts.now.futures))) all_got c.args.parts.now c.read_all.new.parts c.read_all.result c.read_all.ensures.tells c.read_all.ensures.own
    (subst (OwnsStreams c.args.parts.now) (sym c.self.view_is) c.requires.own)
