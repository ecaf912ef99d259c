use Rattle.std.proofs.Common.{sym, subst}
use Rattle.model_wire.specs.declared.event.Handed.{Handed}
use Rattle.model_wire.specs.declared.event.Handed.TheVariants as to
use Rattle.model_stream.specs.Requests.{limits}
use Rattle.aio_transports.specs.Kept.{Kept, kept_all}
use Rattle.aio_transports.specs.Owned.{OwnsTransports}
use Rattle.aio_transports.specs.Standing.{ToldWith}
use Rattle.aio_transports.proofs.Lifting.{said_children, said_streams}
use Rattle.aio_transports.proofs.Lasting.{limits_keep}
use Rattle.aio_transports.proofs.transports.Transports.limits.Goals as goal

pub returns-in-Conn-clause-told : goal.returns-in-Conn-clause-told
returns-in-Conn-clause-told c v =
    let i = c.self.inside in
    subst (λ (whom : Handed). ToldWith (limits c.args.high c.args.low whom) c.args.self.now
    (kept_all c.limits.new.self i.children i.remaining) v v c.limits.result)
    (sym c.in-Conn.is)
    (subst (λ (k : Kept). ToldWith (limits c.args.high c.args.low (to.Conn c.in-Conn.id)) k
    (kept_all c.limits.new.self i.children i.remaining) v v c.limits.result) c.self.view_is
    (said_streams i.streams i.children i.remaining v v (limits c.args.high c.args.low (to.Conn c.in-Conn.id))
    (limits_keep c.args.high c.args.low (to.Conn c.in-Conn.id)) c.limits.new.self c.limits.result (c.limits.ensures.told v)))

pub returns-in-Conn-clause-own : goal.returns-in-Conn-clause-own
returns-in-Conn-clause-own c v own =
    let before = subst (OwnsTransports v) (sym c.self.view_is) own in
    (c.limits.ensures.own v before.0, before.1)

pub returns-in-Child-clause-told : goal.returns-in-Child-clause-told
returns-in-Child-clause-told c v =
    let i = c.self.inside in
    subst (λ (whom : Handed). ToldWith (limits c.args.high c.args.low whom) c.args.self.now
    (kept_all i.streams c.limits-in-Child.new.self i.remaining) v v c.limits-in-Child.result) (sym c.in-Child.is)
    (subst (λ (k : Kept). ToldWith (limits c.args.high c.args.low (to.Child c.in-Child.id)) k
    (kept_all i.streams c.limits-in-Child.new.self i.remaining) v v c.limits-in-Child.result) c.self.view_is
    (said_children i.streams i.children i.remaining v v (limits c.args.high c.args.low (to.Child c.in-Child.id))
    (limits_keep c.args.high c.args.low (to.Child c.in-Child.id)) c.limits-in-Child.new.self c.limits-in-Child.result
    (c.limits-in-Child.ensures.told v)))

pub returns-in-Child-clause-own : goal.returns-in-Child-clause-own
returns-in-Child-clause-own c v own =
    let before = subst (OwnsTransports v) (sym c.self.view_is) own in
    (before.0, c.limits-in-Child.ensures.own v before.1)
