use Rattle.std.proofs.Common.{sym, subst}
use Rattle.model_stream.specs.Requests.{OfChild, OfConn, give_up_read}
use Rattle.aio_transports.specs.declared.reader.StreamReader.{StreamReader}
use Rattle.aio_transports.specs.Readers.{reader_as}
use Rattle.aio_transports.specs.Kept.{Kept, kept_all}
use Rattle.aio_transports.specs.Owned.{OwnsTransports}
use Rattle.aio_transports.specs.Standing.{Becomes}
use Rattle.aio_transports.proofs.Lifting.{becomes_on_children, becomes_on_streams}
use Rattle.aio_transports.proofs.Lasting.{give_up_keeps}
use Rattle.aio_transports.proofs.transports.Transports.give_up.Goals as goal

pub returns-in-Conn-clause-after : goal.returns-in-Conn-clause-after
returns-in-Conn-clause-after c =
    let i = c.self.inside in
    subst (λ (from : StreamReader). Becomes (give_up_read c.args.on (reader_as from)) c.args.self.now
    (kept_all c.give_up.new.self i.children i.remaining))
    (sym c.in-Conn.is)
    (subst (λ (k : Kept). Becomes (give_up_read c.args.on (OfConn c.in-Conn.id)) k
    (kept_all c.give_up.new.self i.children i.remaining)) c.self.view_is
    (becomes_on_streams i.streams i.children i.remaining (give_up_read c.args.on (OfConn c.in-Conn.id))
    (give_up_keeps c.args.on (OfConn c.in-Conn.id)) c.give_up.new.self c.give_up.ensures.after))

pub returns-in-Conn-clause-own : goal.returns-in-Conn-clause-own
returns-in-Conn-clause-own c v own =
    let before = subst (OwnsTransports v) (sym c.self.view_is) own in
    (c.give_up.ensures.own v before.0, before.1)

pub returns-in-Child-clause-after : goal.returns-in-Child-clause-after
returns-in-Child-clause-after c =
    let i = c.self.inside in
    subst (λ (from : StreamReader). Becomes (give_up_read c.args.on (reader_as from)) c.args.self.now
    (kept_all i.streams c.give_up-in-Child.new.self i.remaining))
    (sym c.in-Child.is)
    (subst (λ (k : Kept). Becomes (give_up_read c.args.on (OfChild c.in-Child.pipe c.in-Child.id)) k
    (kept_all i.streams c.give_up-in-Child.new.self i.remaining)) c.self.view_is
    (becomes_on_children i.streams i.children i.remaining (give_up_read c.args.on (OfChild c.in-Child.pipe c.in-Child.id))
    (give_up_keeps c.args.on
    (OfChild c.in-Child.pipe c.in-Child.id)) c.give_up-in-Child.new.self c.give_up-in-Child.ensures.after))

pub returns-in-Child-clause-own : goal.returns-in-Child-clause-own
returns-in-Child-clause-own c v own =
    let before = subst (OwnsTransports v) (sym c.self.view_is) own in
    (before.0, c.give_up-in-Child.ensures.own v before.1)
