use Rattle.std.proofs.Common.{IfOk, length, slice_set, sym, subst}
use Rattle.model_wire.specs.declared.event.Handed.TheVariants as to
use Rattle.model_stream.specs.declared.answers.Drain.TheVariants as drain_as
use Rattle.model_stream.specs.Connections.{drain_of}
use Rattle.model_stream.specs.Requests.{drain}
use Rattle.model_stream.specs.Senders.{Drain}
use Rattle.aio_stream.specs.Kept.{Kept, all_opened}
use Rattle.aio_stream.specs.Owned.{OwnsStreams}
use Rattle.aio_stream.specs.Standing.{ToldWith}
use Rattle.aio_stream.proofs.Placing.{at_place, own_said, past_place, said_absent, said_placed}
use Rattle.aio_stream.proofs.streams.Streams.drain.Goals as goal

pub returns-in_default-clause-told : goal.returns-in_default-clause-told
returns-in_default-clause-told c =
    let i = c.self.inside in
    let before : Kept = record { servers = i.servers.items; connections = i.connections.items; opened = all_opened i.opened.items; most = i.most } in
    subst (λ (k : Kept). ToldWith (drain c.args.yielded (length c.args.parts.now.futures)
    (to.Conn c.args.id)) k before c.args.parts.now c.args.parts.now drain_as.Goes) c.self.view_is
    (said_absent before c.args.id (past_place i.connections.items c.args.id c.in_default.ensures.item.3) drain_as.Goes (drain_of c.args.yielded
    (length c.args.parts.now.futures)) c.args.parts.now)

pub returns-clause-told : goal.returns-clause-told
returns-clause-told c =
    let i = c.self.inside in
    let before : Kept = record { servers = i.servers.items; connections = i.connections.items; opened = all_opened i.opened.items; most = i.most } in
    subst (λ (k : Kept). IfOk c.drain.result (λ said. ToldWith (drain c.args.yielded (length c.args.parts.now.futures) (to.Conn c.args.id)) k
    (record before { connections = slice_set i.connections.items c.args.id c.drain.new.self }) c.args.parts.now c.drain.new.parts said))
    c.self.view_is
    (said_placed before c.args.id c.in-Some.connection.now c.drain.new.self
    (at_place i.connections.items c.args.id c.in-Some.connection.now c.in-Some.ensures.item.3.0 c.in-Some.ensures.item.1)
    drain_as.Goes (drain_of c.args.yielded (length c.args.parts.now.futures)) (λ
    (said : Drain). said) c.args.parts.now c.drain.new.parts c.drain.result c.drain.ensures.tells)

pub returns-clause-own : goal.returns-clause-own
returns-clause-own c =
    let i = c.self.inside in
    let before : Kept = record { servers = i.servers.items; connections = i.connections.items; opened = all_opened i.opened.items; most = i.most } in
    own_said before c.args.id c.in-Some.connection.now c.drain.new.self
    (at_place i.connections.items c.args.id c.in-Some.connection.now c.in-Some.ensures.item.3.0 c.in-Some.ensures.item.1)
    drain_as.Goes (drain_of c.args.yielded (length c.args.parts.now.futures)) (λ
    (said : Drain). said) c.args.parts.now c.drain.new.parts c.drain.result c.drain.ensures.tells c.drain.ensures.own
    (subst (OwnsStreams c.args.parts.now) (sym c.self.view_is) c.requires.own)
