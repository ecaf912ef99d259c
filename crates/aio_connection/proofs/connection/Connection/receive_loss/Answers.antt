use Rattle.std.proofs.Common.{refl, sym, subst}
use Rattle.model_stream.specs.Connections.{Connection, its_receiver}
use Rattle.model_stream.specs.Doing.{on}
use Rattle.model_stream.specs.Receivers.{receive_loss}
use Rattle.aio_exchange.specs.Tells.{Tells}
use Rattle.aio_change.specs.Seen.{seen_changed}
use Rattle.aio_change.proofs.ByPart.{told_on}
use Rattle.aio_change.proofs.Owning.{told_keeps}
use Rattle.aio_connection.specs.Owned.{OwnsConnection}
use Rattle.aio_connection.proofs.Owning.{own_woken}
use Rattle.aio_connection.proofs.connection.Connection.receive_loss.Goals as goal

pub returns-clause-tells : goal.returns-clause-tells
returns-clause-tells c =
    let i = c.self.inside in
    let before : Connection = record { making = i.making; handler = i.handler; began = i.began; sender = i.sender; receiver = i.receiver } in
    subst (λ (v : Connection). Tells seen_changed (on its_receiver (receive_loss c.args.loss) v)
    c.args.parts.now c.receive_loss.new.parts (record before { receiver = c.receive_loss.new.self }))
    c.self.view_is
    (told_on its_receiver before c.receive_loss.new.self (receive_loss c.args.loss) c.args.parts.now c.receive_loss.new.parts c.receive_loss.ensures.tells)

pub returns-clause-own : goal.returns-clause-own
returns-clause-own c =
    let i = c.self.inside in
    let before : Connection = record { making = i.making; handler = i.handler; began = i.began; sender = i.sender; receiver = i.receiver } in
    let old = c.args.parts.now in
    let new = c.receive_loss.new.parts in
    own_woken old new (told_keeps (receive_loss c.args.loss before.receiver) old new c.receive_loss.new.self c.receive_loss.ensures.tells) before
    (record before { receiver = c.receive_loss.new.self }) c.receive_loss.new.self refl c.receive_loss.ensures.nobody
    (subst (OwnsConnection old) (sym c.self.view_is) c.requires.own)
