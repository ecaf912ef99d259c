use Rattle.std.proofs.Common.{subst, OnOk}
use Rattle.std.proofs.lemmas.Result.{on_ok_weaker}
use Rattle.model_stream.specs.Connections.{Connection, its_sender, outlet}
use Rattle.model_stream.specs.Doing.{on}
use Rattle.model_stream.specs.Senders.{fail_sender}
use Rattle.aio_exchange.specs.Tells.{Tells}
use Rattle.aio_change.specs.Seen.{seen_changed}
use Rattle.aio_change.proofs.ByPart.{told_on}
use Rattle.aio_connection.specs.Owned.{OwnsConnection}
use Rattle.aio_connection.proofs.Owning.{own_if_told}
use Rattle.aio_connection.proofs.connection.Connection.fail.Goals as goal

pub returns-clause-tells : goal.returns-clause-tells
returns-clause-tells c =
    let i = c.self.inside in
    let before : Connection = record { making = i.making; handler = i.handler; began = i.began; sender = i.sender; receiver = i.receiver } in
    subst (λ (v : Connection). OnOk c.fail.result (Tells seen_changed (on its_sender (fail_sender (outlet c.args.id)) v)
    c.args.parts.now c.fail.new.parts (record before { sender = c.fail.new.self })))
    c.self.view_is
    (on_ok_weaker c.fail.result (told_on its_sender before c.fail.new.self (fail_sender (outlet c.args.id)) c.args.parts.now c.fail.new.parts)
    c.fail.ensures.tells)

pub returns-clause-own : goal.returns-clause-own
returns-clause-own c =
    let i = c.self.inside in
    let before : Connection = record { making = i.making; handler = i.handler; began = i.began; sender = i.sender; receiver = i.receiver } in
    subst (λ (v : Connection). OnOk c.fail.result (OwnsConnection c.args.parts.now v
    → OwnsConnection c.fail.new.parts (record before { sender = c.fail.new.self })))
    c.self.view_is
    (own_if_told before c.args.parts.now c.fail.new.parts c.fail.new.self (fail_sender (outlet c.args.id) before.sender) c.fail.result c.fail.ensures.tells
    c.fail.ensures.own)
