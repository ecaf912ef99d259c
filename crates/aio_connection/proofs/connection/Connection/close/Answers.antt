use Rattle.std.proofs.Common.{subst, OnOk}
use Rattle.std.proofs.lemmas.Result.{on_ok_weaker}
use Rattle.model_stream.specs.Connections.{Connection, its_sender, outlet}
use Rattle.model_stream.specs.Doing.{on}
use Rattle.model_stream.specs.Senders.{close_sender}
use Rattle.aio_exchange.specs.Tells.{Tells}
use Rattle.aio_change.specs.Seen.{seen_changed}
use Rattle.aio_change.proofs.ByPart.{told_on}
use Rattle.aio_connection.specs.Owned.{OwnsConnection}
use Rattle.aio_connection.proofs.Owning.{own_if_told}
use Rattle.aio_connection.proofs.connection.Connection.close.Goals as goal

pub returns-clause-tells : goal.returns-clause-tells
returns-clause-tells c =
    let i = c.self.inside in
    let before : Connection = record { making = i.making; handler = i.handler; began = i.began; sender = i.sender; receiver = i.receiver } in
    subst (λ (v : Connection). OnOk c.close.result (Tells seen_changed (on its_sender (close_sender (outlet c.args.id)) v)
    c.args.parts.now c.close.new.parts (record before { sender = c.close.new.self })))
    c.self.view_is
    (on_ok_weaker c.close.result (told_on its_sender before c.close.new.self (close_sender (outlet c.args.id)) c.args.parts.now c.close.new.parts)
    c.close.ensures.tells)

pub returns-clause-own : goal.returns-clause-own
returns-clause-own c =
    let i = c.self.inside in
    let before : Connection = record { making = i.making; handler = i.handler; began = i.began; sender = i.sender; receiver = i.receiver } in
    subst (λ (v : Connection). OnOk c.close.result (OwnsConnection c.args.parts.now v
    → OwnsConnection c.close.new.parts (record before { sender = c.close.new.self })))
    c.self.view_is
    (own_if_told before c.args.parts.now c.close.new.parts c.close.new.self (close_sender
    (outlet c.args.id) before.sender) c.close.result c.close.ensures.tells
    c.close.ensures.own)
