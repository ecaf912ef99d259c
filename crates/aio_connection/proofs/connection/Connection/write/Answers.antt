use Rattle.std.proofs.Common.{subst, OnOk}
use Rattle.model_stream.specs.declared.answers.Wrote.{Wrote}
use Rattle.model_stream.specs.Connections.{Connection, its_sender, outlet}
use Rattle.model_stream.specs.Doing.{asked_on}
use Rattle.model_stream.specs.Senders.{write}
use Rattle.aio_exchange.specs.Follows.{Follows, Reach, with_after, reach}
use Rattle.aio_task.specs.View.{View}
use Rattle.aio_change.specs.Seen.{seen_changed}
use Rattle.aio_change.proofs.ByPart.{went_asked_on}
use Rattle.aio_connection.specs.Owned.{OwnsConnection}
use Rattle.aio_connection.proofs.Owning.{own_if_wrote}
use Rattle.aio_connection.proofs.connection.Connection.write.Goals as goal

pub returns-clause-follows : goal.returns-clause-follows
returns-clause-follows g c =
    let old : Reach View g.row.W.Denot = reach c.args.parts.now c.args.port.now.wire.now c.args.port.now.events.now in
    let new : Reach View g.row.W.Denot = reach c.write.new.parts c.write.new.port.wire.now c.write.new.port.events.now in
    let i = c.self.inside in
    let before : Connection = record { making = i.making; handler = i.handler; began = i.began; sender = i.sender; receiver = i.receiver } in
    subst (λ (v : Connection). Follows {A = Connection × Wrote} g.W.Wire.outside seen_changed
    (asked_on its_sender (write (outlet c.args.id) c.args.piece.now) v) old new
    (with_after (record before { sender = c.write.new.self }) c.write.result))
    c.self.view_is
    (went_asked_on its_sender before c.write.new.self g.W.Wire.outside old new
    (write (outlet c.args.id) c.args.piece.now) c.write.result c.write.ensures.follows)

pub returns-clause-own : goal.returns-clause-own
returns-clause-own g c =
    let old : Reach View g.row.W.Denot = reach c.args.parts.now c.args.port.now.wire.now c.args.port.now.events.now in
    let new : Reach View g.row.W.Denot = reach c.write.new.parts c.write.new.port.wire.now c.write.new.port.events.now in
    let i = c.self.inside in
    let before : Connection = record { making = i.making; handler = i.handler; began = i.began; sender = i.sender; receiver = i.receiver } in
    subst (λ (v : Connection). OnOk c.write.result (OwnsConnection old.parts v → OwnsConnection new.parts (record before { sender = c.write.new.self })))
    c.self.view_is
    (own_if_wrote g.W.Wire.outside before c.write.new.self old new (write (outlet c.args.id) c.args.piece.now before.sender) c.write.result
    c.write.ensures.follows
    c.write.ensures.own)
