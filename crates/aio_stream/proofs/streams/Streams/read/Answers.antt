use Rattle.std.proofs.Common.{[], IfOk, length, slice_set, sym, subst}
use Rattle.model_stream.specs.declared.answers.StreamGot.TheVariants as got_as
use Rattle.model_stream.specs.Connections.{its_receiver}
use Rattle.model_stream.specs.Doing.{asked_on}
use Rattle.model_stream.specs.Receivers as receivers
use Rattle.model_stream.specs.Requests as requests
use Rattle.aio_stream.specs.Kept.{Kept, all_opened}
use Rattle.aio_stream.specs.Owned.{OwnsStreams}
use Rattle.aio_stream.specs.Standing.{ToldWith}
use Rattle.aio_stream.proofs.Placing.{at_place, own_said, past_place, said_absent, said_placed}
use Rattle.aio_stream.proofs.streams.Streams.read.Goals as goal

pub returns-in_default-clause-told : goal.returns-in_default-clause-told
returns-in_default-clause-told c =
    let i = c.self.inside in
    let before : Kept = record { servers = i.servers.items; connections = i.connections.items; opened = all_opened i.opened.items; most = i.most } in
    subst (λ (k : Kept). ToldWith (requests.read (length c.args.parts.now.futures) c.args.op.now
    (requests.OfConn c.args.id)) k before c.args.parts.now c.args.parts.now (c.no_bytes.result)) c.self.view_is
    (subst (λ (it : receivers.StreamGot). ToldWith (requests.read (length c.args.parts.now.futures) c.args.op.now
    (requests.OfConn c.args.id)) before before c.args.parts.now c.args.parts.now it) (sym c.no_bytes.ensures)
    (said_absent before c.args.id (past_place i.connections.items c.args.id c.in_default.ensures.item.3) (got_as.Bytes []) (asked_on its_receiver
    (receivers.read (length c.args.parts.now.futures) c.args.op.now)) c.args.parts.now))

pub returns-clause-told : goal.returns-clause-told
returns-clause-told c =
    let i = c.self.inside in
    let before : Kept = record { servers = i.servers.items; connections = i.connections.items; opened = all_opened i.opened.items; most = i.most } in
    subst (λ (k : Kept). IfOk c.read.result (λ said. ToldWith (requests.read (length c.args.parts.now.futures) c.args.op.now (requests.OfConn c.args.id)) k
    (record before { connections = slice_set i.connections.items c.args.id c.read.new.self }) c.args.parts.now c.read.new.parts (said)))
    c.self.view_is
    (said_placed before c.args.id c.in-Some.connection.now c.read.new.self
    (at_place i.connections.items c.args.id c.in-Some.connection.now c.in-Some.ensures.item.3.0 c.in-Some.ensures.item.1)
    (got_as.Bytes []) (asked_on its_receiver (receivers.read (length c.args.parts.now.futures) c.args.op.now)) (λ
    (said : receivers.StreamGot). said) c.args.parts.now c.read.new.parts c.read.result c.read.ensures.tells)

pub returns-clause-own : goal.returns-clause-own
returns-clause-own c =
    let i = c.self.inside in
    let before : Kept = record { servers = i.servers.items; connections = i.connections.items; opened = all_opened i.opened.items; most = i.most } in
    own_said before c.args.id c.in-Some.connection.now c.read.new.self
    (at_place i.connections.items c.args.id c.in-Some.connection.now c.in-Some.ensures.item.3.0 c.in-Some.ensures.item.1)
    (got_as.Bytes []) (asked_on its_receiver (receivers.read (length c.args.parts.now.futures) c.args.op.now)) (λ
    (said : receivers.StreamGot). said) c.args.parts.now c.read.new.parts c.read.result c.read.ensures.tells c.read.ensures.own
    (subst (OwnsStreams c.args.parts.now) (sym c.self.view_is) c.requires.own)
