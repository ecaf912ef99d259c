use Rattle.std.proofs.Common.{sym, subst, OnOk}
use Rattle.std.proofs.lemmas.Result.{on_ok_weaker}
use Rattle.model_stream.specs.Connections.{Connection, its_receiver}
use Rattle.model_stream.specs.Doing.{on}
use Rattle.model_stream.specs.Receivers.{receive}
use Rattle.aio_exchange.specs.Tells.{Tells}
use Rattle.aio_change.specs.Seen.{seen_changed}
use Rattle.aio_change.proofs.ByPart.{told_on}
use Rattle.aio_connection.specs.Owned.{OwnsConnection}
use Rattle.aio_connection.proofs.Owning.{own_if_received}
use Rattle.aio_connection.proofs.connection.Connection.receive.Goals as goal

pub returns-clause-tells : goal.returns-clause-tells
returns-clause-tells c =
    let i = c.self.inside in
    let before : Connection = record { making = i.making; handler = i.handler; began = i.began; sender = i.sender; receiver = i.receiver } in
    subst (λ (v : Connection). OnOk c.receive.result (Tells seen_changed (on its_receiver (receive c.args.piece.now) v)
    c.args.parts.now c.receive.new.parts (record before { receiver = c.receive.new.self })))
    c.self.view_is
    (on_ok_weaker c.receive.result (told_on its_receiver before c.receive.new.self (receive c.args.piece.now) c.args.parts.now c.receive.new.parts)
    c.receive.ensures.tells)

pub returns-clause-own : goal.returns-clause-own
returns-clause-own c =
    let i = c.self.inside in
    let before : Connection = record { making = i.making; handler = i.handler; began = i.began; sender = i.sender; receiver = i.receiver } in
    own_if_received before c.args.parts.now c.receive.new.parts c.receive.new.self
    (receive c.args.piece.now before.receiver) c.receive.result c.receive.ensures.tells
    c.receive.ensures.nobody (subst (OwnsConnection c.args.parts.now) (sym c.self.view_is) c.requires.own)
