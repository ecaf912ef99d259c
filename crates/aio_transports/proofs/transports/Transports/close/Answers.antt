use Rattle.std.proofs.Common.{OnOk, sym, subst}
use Rattle.model_wire.specs.declared.event.Handed.{Handed}
use Rattle.model_wire.specs.declared.event.Handed.TheVariants as to
use Rattle.model_stream.specs.Requests.{close}
use Rattle.aio_transports.specs.Kept.{Kept, kept_all}
use Rattle.aio_transports.specs.Owned.{OwnsTransports}
use Rattle.aio_transports.specs.Standing.{Told}
use Rattle.aio_transports.proofs.Lifting.{told_on_streams, told_on_children, own_told_streams, own_told_children}
use Rattle.aio_transports.proofs.Lasting.{close_keeps}
use Rattle.aio_transports.proofs.transports.Transports.close.Goals as goal

pub close-requires-clause-own : goal.close-requires-clause-own
close-requires-clause-own c =
    (subst (OwnsTransports c.args.parts.now) (sym c.self.view_is) c.requires.own).0

pub returns-in-Conn-clause-told : goal.returns-in-Conn-clause-told
returns-in-Conn-clause-told c =
    let i = c.self.inside in
    subst (λ (whom : Handed). OnOk c.close.result
    (Told (close whom) c.args.self.now (kept_all c.close.new.self i.children i.remaining) c.args.parts.now c.close.new.parts))
    (sym c.in-Conn.is)
    (subst (λ (k : Kept). OnOk c.close.result
    (Told (close (to.Conn c.in-Conn.id)) k
    (kept_all c.close.new.self i.children i.remaining) c.args.parts.now c.close.new.parts)) c.self.view_is
    (told_on_streams i.streams i.children i.remaining c.args.parts.now c.close.new.parts (close (to.Conn c.in-Conn.id))
    (close_keeps (to.Conn c.in-Conn.id)) c.close.result c.close.new.self c.close.ensures.told))

pub returns-in-Conn-clause-own : goal.returns-in-Conn-clause-own
returns-in-Conn-clause-own c =
    let i = c.self.inside in
    own_told_streams i.streams i.children i.remaining c.args.parts.now c.close.new.parts (close (to.Conn c.in-Conn.id))
    (close_keeps (to.Conn c.in-Conn.id)) c.close.result c.close.new.self c.close.ensures.told c.close.ensures.own
    (subst (OwnsTransports c.args.parts.now) (sym c.self.view_is) c.requires.own)

pub close-requires-in-Child-clause-own : goal.close-requires-in-Child-clause-own
close-requires-in-Child-clause-own c =
    (subst (OwnsTransports c.args.parts.now) (sym c.self.view_is) c.requires.own).1

pub returns-in-Child-clause-told : goal.returns-in-Child-clause-told
returns-in-Child-clause-told c =
    let i = c.self.inside in
    subst (λ (whom : Handed). OnOk c.close-in-Child.result
    (Told (close whom) c.args.self.now
    (kept_all i.streams c.close-in-Child.new.self i.remaining) c.args.parts.now c.close-in-Child.new.parts))
    (sym c.in-Child.is)
    (subst (λ (k : Kept). OnOk c.close-in-Child.result
    (Told (close (to.Child c.in-Child.id)) k
    (kept_all i.streams c.close-in-Child.new.self i.remaining) c.args.parts.now c.close-in-Child.new.parts)) c.self.view_is
    (told_on_children i.streams i.children i.remaining c.args.parts.now c.close-in-Child.new.parts (close
    (to.Child c.in-Child.id))
    (close_keeps (to.Child c.in-Child.id)) c.close-in-Child.result c.close-in-Child.new.self c.close-in-Child.ensures.told))

pub returns-in-Child-clause-own : goal.returns-in-Child-clause-own
returns-in-Child-clause-own c =
    let i = c.self.inside in
    own_told_children i.streams i.children i.remaining c.args.parts.now c.close-in-Child.new.parts (close
    (to.Child c.in-Child.id))
    (close_keeps
    (to.Child c.in-Child.id)) c.close-in-Child.result c.close-in-Child.new.self c.close-in-Child.ensures.told c.close-in-Child.ensures.own
    (subst (OwnsTransports c.args.parts.now) (sym c.self.view_is) c.requires.own)
