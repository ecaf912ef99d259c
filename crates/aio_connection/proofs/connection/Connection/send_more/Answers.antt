use Rattle.std.proofs.Common.{sym, subst}
use Rattle.model_stream.specs.Connections.{Connection, its_sender, outlet}
use Rattle.model_stream.specs.Doing.{on}
use Rattle.model_stream.specs.Senders.{send_more}
use Rattle.aio_exchange.specs.Follows.{Follows, Reach, after_of, reach}
use Rattle.aio_task.specs.View.{View}
use Rattle.aio_change.specs.Seen.{seen_changed}
use Rattle.aio_change.proofs.ByPart.{went_on}
use Rattle.aio_connection.specs.Owned.{OwnsConnection}
use Rattle.aio_connection.proofs.Owning.{own_if_went}
use Rattle.aio_connection.proofs.connection.Connection.send_more.Goals as goal

pub returns-clause-follows : goal.returns-clause-follows
returns-clause-follows g c =
    let old : Reach View g.row.W.Denot = reach c.args.parts.now c.args.port.now.wire.now c.args.port.now.events.now in
    let new : Reach View g.row.W.Denot = reach c.send_more.new.parts c.send_more.new.port.wire.now c.send_more.new.port.events.now in
    let i = c.self.inside in
    let before : Connection = record { making = i.making; handler = i.handler; began = i.began; sender = i.sender; receiver = i.receiver } in
    subst (λ (v : Connection). Follows g.W.Wire.outside seen_changed (on its_sender (send_more (outlet c.args.id)) v) old new
    (after_of (record before { sender = c.send_more.new.self }) c.send_more.result))
    c.self.view_is
    (went_on its_sender before c.send_more.new.self g.W.Wire.outside old new (send_more (outlet c.args.id)) c.send_more.result c.send_more.ensures.follows)

pub returns-clause-own : goal.returns-clause-own
returns-clause-own g c =
    let old : Reach View g.row.W.Denot = reach c.args.parts.now c.args.port.now.wire.now c.args.port.now.events.now in
    let new : Reach View g.row.W.Denot = reach c.send_more.new.parts c.send_more.new.port.wire.now c.send_more.new.port.events.now in
    let i = c.self.inside in
    let before : Connection = record { making = i.making; handler = i.handler; began = i.began; sender = i.sender; receiver = i.receiver } in
    own_if_went g.W.Wire.outside before c.send_more.new.self old new
    (send_more (outlet c.args.id) before.sender) c.send_more.result c.send_more.ensures.follows c.send_more.ensures.own
    (subst (OwnsConnection old.parts) (sym c.self.view_is) c.requires.own)
