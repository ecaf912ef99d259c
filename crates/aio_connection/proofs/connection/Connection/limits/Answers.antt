use Rattle.std.proofs.Common.{◌≡◌, sym, ap, subst}
use Rattle.model_stream.specs.Connections.{Connection, its_sender, limits_of}
use Rattle.model_stream.specs.Doing.{Ends, and_then}
use Rattle.model_stream.specs.declared.put.Limited.{Limited}
use Rattle.model_stream.specs.Senders.{Sender}
use Rattle.aio_sender.specs.Owned.{OwnsSender}
use Rattle.aio_connection.specs.Owned.{OwnsConnection}
use Rattle.aio_connection.proofs.connection.Connection.limits.Goals as goal

pub returns-clause-is : goal.returns-clause-is
returns-clause-is c =
    let i = c.self.inside in
    let before : Connection = record { making = i.making; handler = i.handler; began = i.began; sender = i.sender; receiver = i.receiver } in
    subst (λ (v : Connection). limits_of c.args.high c.args.low v ≡ Ends (record before { sender = c.limits.new.self }, c.limits.result))
    c.self.view_is
    (ap (λ d. and_then {A = Sender × Limited} {B = Connection × Limited} d (λ done. Ends (its_sender.put done.0 before, done.1))) c.limits.ensures.is)

pub returns-clause-frame : goal.returns-clause-frame
returns-clause-frame c =
    let i = c.self.inside in
    let before : Connection = record { making = i.making; handler = i.handler; began = i.began; sender = i.sender; receiver = i.receiver } in
    subst (λ (v : Connection). record before { sender = c.limits.new.self } ≡ record v { sender = record v.sender { writer = c.limits.new.self.writer } })
    c.self.view_is (ap (λ (s : Sender). record before { sender = s }) c.limits.ensures.frame)

pub returns-clause-own : goal.returns-clause-own
returns-clause-own c v own =
    let i = c.self.inside in
    let before : Connection = record { making = i.making; handler = i.handler; began = i.began; sender = i.sender; receiver = i.receiver } in
    let was : OwnsConnection v before = subst (OwnsConnection v) (sym c.self.view_is) own in
    record { making = was.making; sender = subst (OwnsSender v) (sym c.limits.ensures.frame) was.sender; waiter = was.waiter }
