use Rattle.std.proofs.Common.{sym, subst}
use Rattle.model_stream.specs.Connections.{Connection, its_sender, outlet}
use Rattle.model_stream.specs.Doing.{on}
use Rattle.model_stream.specs.Senders.{lose_sender}
use Rattle.aio_exchange.specs.Follows.{Follows, Reach, after_of, reach}
use Rattle.aio_task.specs.View.{View}
use Rattle.aio_change.specs.Seen.{seen_changed}
use Rattle.aio_change.proofs.ByPart.{went_on}
use Rattle.aio_connection.specs.Owned.{OwnsConnection}
use Rattle.aio_connection.proofs.Owning.{own_if_went}
use Rattle.aio_connection.proofs.connection.Connection.lose_sender.Goals as goal

pub returns-clause-follows : goal.returns-clause-follows
returns-clause-follows g c =
    let old : Reach View g.row.W.Denot = reach c.args.parts.now c.args.port.now.wire.now c.args.port.now.events.now in
    let new : Reach View g.row.W.Denot = reach c.lose.new.parts c.lose.new.port.wire.now c.lose.new.port.events.now in
    let i = c.self.inside in
    let before : Connection = record { making = i.making; handler = i.handler; began = i.began; sender = i.sender; receiver = i.receiver } in
    subst (λ (v : Connection). Follows g.W.Wire.outside seen_changed (on its_sender (lose_sender (outlet c.args.id) c.args.broken) v) old new
    (after_of (record before { sender = c.lose.new.self }) c.lose.result))
    c.self.view_is
    (went_on its_sender before c.lose.new.self g.W.Wire.outside old new (lose_sender (outlet c.args.id) c.args.broken) c.lose.result c.lose.ensures.follows)

pub returns-clause-own : goal.returns-clause-own
returns-clause-own g c =
    let old : Reach View g.row.W.Denot = reach c.args.parts.now c.args.port.now.wire.now c.args.port.now.events.now in
    let new : Reach View g.row.W.Denot = reach c.lose.new.parts c.lose.new.port.wire.now c.lose.new.port.events.now in
    let i = c.self.inside in
    let before : Connection = record { making = i.making; handler = i.handler; began = i.began; sender = i.sender; receiver = i.receiver } in
    own_if_went g.W.Wire.outside before c.lose.new.self old new
    (lose_sender (outlet c.args.id) c.args.broken before.sender) c.lose.result c.lose.ensures.follows c.lose.ensures.own
    (subst (OwnsConnection old.parts) (sym c.self.view_is) c.requires.own)
