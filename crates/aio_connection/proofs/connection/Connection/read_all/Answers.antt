use Rattle.std.proofs.Common.{subst, OnOk, IfOk, length}
use Rattle.std.proofs.lemmas.Result.{IfOk-weaker}
use Rattle.model_stream.specs.Connections.{Connection, its_receiver}
use Rattle.model_stream.specs.Doing.{asked_on}
use Rattle.model_stream.specs.Receivers.{AllGot, read_all}
use Rattle.aio_exchange.specs.Tells.{Tells}
use Rattle.aio_change.specs.Seen.{seen_changed}
use Rattle.aio_change.proofs.ByPart.{told_asked_on}
use Rattle.aio_receiver.specs.Gotten.{all_got}
use Rattle.aio_connection.specs.Owned.{OwnsConnection}
use Rattle.aio_connection.proofs.Owning.{own_if_read}
use Rattle.aio_connection.proofs.connection.Connection.read_all.Goals as goal

pub returns-clause-tells : goal.returns-clause-tells
returns-clause-tells c =
    let i = c.self.inside in
    let before : Connection = record { making = i.making; handler = i.handler; began = i.began; sender = i.sender; receiver = i.receiver } in
    subst (λ (v : Connection). IfOk c.read_all.result
    (λ said. Tells {A = Connection × AllGot} seen_changed (asked_on its_receiver (read_all (length c.args.parts.now.futures)) v)
    c.args.parts.now c.read_all.new.parts (record before { receiver = c.read_all.new.self }, all_got said)))
    c.self.view_is
    (IfOk-weaker c.read_all.result _ _
    (λ said it. told_asked_on its_receiver before c.read_all.new.self (read_all (length c.args.parts.now.futures))
    (all_got said) c.args.parts.now c.read_all.new.parts it)
    c.read_all.ensures.tells)

pub returns-clause-own : goal.returns-clause-own
returns-clause-own c =
    let i = c.self.inside in
    let before : Connection = record { making = i.making; handler = i.handler; began = i.began; sender = i.sender; receiver = i.receiver } in
    subst (λ (v : Connection). OnOk c.read_all.result (OwnsConnection c.args.parts.now v
    → OwnsConnection c.read_all.new.parts (record before { receiver = c.read_all.new.self })))
    c.self.view_is
    (own_if_read before c.args.parts.now c.read_all.new.parts (all_got) c.read_all.new.self
    (read_all (length c.args.parts.now.futures) before.receiver) c.read_all.result
    c.read_all.ensures.tells c.read_all.ensures.own)
