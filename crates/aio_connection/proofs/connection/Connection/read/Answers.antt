use Rattle.std.proofs.Common.{subst, OnOk, IfOk, length}
use Rattle.std.proofs.lemmas.Result.{IfOk-weaker}
use Rattle.model_stream.specs.Connections.{Connection, its_receiver}
use Rattle.model_stream.specs.Doing.{asked_on}
use Rattle.model_stream.specs.Receivers.{StreamGot, read}
use Rattle.aio_exchange.specs.Tells.{Tells}
use Rattle.aio_change.specs.Seen.{seen_changed}
use Rattle.aio_change.proofs.ByPart.{told_asked_on}
use Rattle.aio_connection.specs.Owned.{OwnsConnection}
use Rattle.aio_connection.proofs.Owning.{own_if_read}
use Rattle.aio_connection.proofs.connection.Connection.read.Goals as goal

pub returns-clause-tells : goal.returns-clause-tells
returns-clause-tells c =
    let i = c.self.inside in
    let before : Connection = record { making = i.making; handler = i.handler; began = i.began; sender = i.sender; receiver = i.receiver } in
    subst (λ (v : Connection). IfOk c.read.result
    (λ said. Tells {A = Connection × StreamGot} seen_changed (asked_on its_receiver (read (length c.args.parts.now.futures) c.args.op.now) v)
    c.args.parts.now c.read.new.parts (record before { receiver = c.read.new.self }, said)))
    c.self.view_is
    (IfOk-weaker c.read.result _ _
    (λ said it. told_asked_on its_receiver before c.read.new.self (read (length c.args.parts.now.futures) c.args.op.now)
    (said) c.args.parts.now c.read.new.parts it)
    c.read.ensures.tells)

pub returns-clause-own : goal.returns-clause-own
returns-clause-own c =
    let i = c.self.inside in
    let before : Connection = record { making = i.making; handler = i.handler; began = i.began; sender = i.sender; receiver = i.receiver } in
    subst (λ (v : Connection). OnOk c.read.result (OwnsConnection c.args.parts.now v
    → OwnsConnection c.read.new.parts (record before { receiver = c.read.new.self })))
    c.self.view_is
    (own_if_read before c.args.parts.now c.read.new.parts (λ (got : StreamGot). got) c.read.new.self
    (read (length c.args.parts.now.futures) c.args.op.now before.receiver) c.read.result
    c.read.ensures.tells c.read.ensures.own)
