use Rattle.std.proofs.Common.{subst, OnOk, IfOk, length}
use Rattle.std.proofs.lemmas.Result.{IfOk-weaker}
use Rattle.model_stream.specs.Connections.{Connection, its_sender}
use Rattle.model_stream.specs.Doing.{asked_on}
use Rattle.model_stream.specs.Senders.{Drain, drain_sender}
use Rattle.aio_exchange.specs.Tells.{Tells}
use Rattle.aio_change.specs.Seen.{seen_changed}
use Rattle.aio_change.proofs.ByPart.{told_asked_on}
use Rattle.aio_connection.specs.Owned.{OwnsConnection}
use Rattle.aio_connection.proofs.Owning.{own_if_said}
use Rattle.aio_connection.proofs.connection.Connection.drain_sender.Goals as goal

pub returns-clause-tells : goal.returns-clause-tells
returns-clause-tells c =
    let i = c.self.inside in
    let before : Connection = record { making = i.making; handler = i.handler; began = i.began; sender = i.sender; receiver = i.receiver } in
    subst (λ (v : Connection). IfOk c.drain.result
    (λ said. Tells {A = Connection × Drain} seen_changed (asked_on its_sender (drain_sender c.args.yielded (length c.args.parts.now.futures)) v)
    c.args.parts.now c.drain.new.parts (record before { sender = c.drain.new.self }, said)))
    c.self.view_is
    (IfOk-weaker c.drain.result _ _
    (λ said it. told_asked_on its_sender before c.drain.new.self
    (drain_sender c.args.yielded (length c.args.parts.now.futures)) said c.args.parts.now c.drain.new.parts it)
    c.drain.ensures.tells)

pub returns-clause-own : goal.returns-clause-own
returns-clause-own c =
    let i = c.self.inside in
    let before : Connection = record { making = i.making; handler = i.handler; began = i.began; sender = i.sender; receiver = i.receiver } in
    subst (λ (v : Connection). OnOk c.drain.result (OwnsConnection c.args.parts.now v
    → OwnsConnection c.drain.new.parts (record before { sender = c.drain.new.self })))
    c.self.view_is
    (own_if_said before c.args.parts.now c.drain.new.parts c.drain.new.self
    (drain_sender c.args.yielded (length c.args.parts.now.futures) before.sender) c.drain.result c.drain.ensures.tells
    c.drain.ensures.own)
