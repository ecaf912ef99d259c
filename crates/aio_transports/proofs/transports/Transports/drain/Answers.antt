use Rattle.std.proofs.Common.{IfOk, length, sym, subst}
use Rattle.model_wire.specs.declared.event.Handed.{Handed}
use Rattle.model_wire.specs.declared.event.Handed.TheVariants as to
use Rattle.model_stream.specs.Requests.{drain}
use Rattle.model_stream.specs.Senders.{Drain}
use Rattle.aio_transports.specs.Kept.{Kept, kept_all}
use Rattle.aio_transports.specs.Owned.{OwnsTransports}
use Rattle.aio_transports.specs.Standing.{ToldWith}
use Rattle.aio_transports.proofs.Lifting.{said_on_streams, said_on_children, own_said_streams, own_said_children}
use Rattle.aio_transports.proofs.Lasting.{drain_keeps}
use Rattle.aio_transports.proofs.transports.Transports.drain.Goals as goal

pub drain-requires-clause-own : goal.drain-requires-clause-own
drain-requires-clause-own c =
    (subst (OwnsTransports c.args.parts.now) (sym c.self.view_is) c.requires.own).0

pub returns-in-Conn-clause-told : goal.returns-in-Conn-clause-told
returns-in-Conn-clause-told c =
    let i = c.self.inside in
    let next = length c.args.parts.now.futures in
    subst (λ (whom : Handed). IfOk c.drain.result
    (λ said. ToldWith (drain c.args.yielded next whom) c.args.self.now
    (kept_all c.drain.new.self i.children i.remaining) c.args.parts.now c.drain.new.parts said))
    (sym c.in-Conn.is)
    (subst (λ (k : Kept). IfOk c.drain.result
    (λ said. ToldWith (drain c.args.yielded next (to.Conn c.in-Conn.id)) k
    (kept_all c.drain.new.self i.children i.remaining) c.args.parts.now c.drain.new.parts said)) c.self.view_is
    (said_on_streams i.streams i.children i.remaining c.args.parts.now c.drain.new.parts (drain c.args.yielded next
    (to.Conn c.in-Conn.id))
    (drain_keeps c.args.yielded next (to.Conn c.in-Conn.id)) (λ (said : Drain). said) c.drain.result c.drain.new.self
    c.drain.ensures.told))

pub returns-in-Conn-clause-own : goal.returns-in-Conn-clause-own
returns-in-Conn-clause-own c =
    let i = c.self.inside in
    let next = length c.args.parts.now.futures in
    own_said_streams i.streams i.children i.remaining c.args.parts.now c.drain.new.parts (drain c.args.yielded next
    (to.Conn c.in-Conn.id))
    (drain_keeps c.args.yielded next (to.Conn c.in-Conn.id)) (λ (said : Drain). said) c.drain.result c.drain.new.self
    c.drain.ensures.told c.drain.ensures.own (subst (OwnsTransports c.args.parts.now) (sym c.self.view_is) c.requires.own)

pub drain-requires-in-Child-clause-own : goal.drain-requires-in-Child-clause-own
drain-requires-in-Child-clause-own c =
    (subst (OwnsTransports c.args.parts.now) (sym c.self.view_is) c.requires.own).1

pub returns-in-Child-clause-told : goal.returns-in-Child-clause-told
returns-in-Child-clause-told c =
    let i = c.self.inside in
    let next = length c.args.parts.now.futures in
    subst (λ (whom : Handed). IfOk c.drain-in-Child.result
    (λ said. ToldWith (drain c.args.yielded next whom) c.args.self.now
    (kept_all i.streams c.drain-in-Child.new.self i.remaining) c.args.parts.now c.drain-in-Child.new.parts said))
    (sym c.in-Child.is)
    (subst (λ (k : Kept). IfOk c.drain-in-Child.result
    (λ said. ToldWith (drain c.args.yielded next (to.Child c.in-Child.id)) k
    (kept_all i.streams c.drain-in-Child.new.self i.remaining) c.args.parts.now c.drain-in-Child.new.parts said)) c.self.view_is
    (said_on_children i.streams i.children i.remaining c.args.parts.now c.drain-in-Child.new.parts (drain c.args.yielded next
    (to.Child c.in-Child.id))
    (drain_keeps c.args.yielded next (to.Child c.in-Child.id)) (λ
    (said : Drain). said) c.drain-in-Child.result c.drain-in-Child.new.self
    c.drain-in-Child.ensures.told))

pub returns-in-Child-clause-own : goal.returns-in-Child-clause-own
returns-in-Child-clause-own c =
    let i = c.self.inside in
    let next = length c.args.parts.now.futures in
    own_said_children i.streams i.children i.remaining c.args.parts.now c.drain-in-Child.new.parts (drain c.args.yielded next
    (to.Child c.in-Child.id))
    (drain_keeps c.args.yielded next (to.Child c.in-Child.id)) (λ
    (said : Drain). said) c.drain-in-Child.result c.drain-in-Child.new.self
    c.drain-in-Child.ensures.told c.drain-in-Child.ensures.own (subst (OwnsTransports c.args.parts.now)
    (sym c.self.view_is) c.requires.own)
