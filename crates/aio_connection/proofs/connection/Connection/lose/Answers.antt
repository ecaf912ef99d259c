use Rattle.std.proofs.Common.{refl}
use Rattle.std.proofs.lemmas.Result.{err_from_is_err_and}
use Rattle.model_stream.specs.Connections.{lose}
use Rattle.aio_exchange.specs.Follows.{Reach, after_of, reach}
use Rattle.aio_exchange.proofs.Following.{follows_starved}
use Rattle.aio_task.specs.View.{View}
use Rattle.aio_change.specs.Seen.{seen_changed}
use Rattle.aio_connection.proofs.Calling.{loses}
use Rattle.aio_connection.proofs.connection.Connection.lose.Goals as goal

pub returns-in_err-exception-clause-follows : goal.returns-in_err-exception-clause-follows
returns-in_err-exception-clause-follows g c =
    let p = err_from_is_err_and c.from_residual.result c.from_residual.ensures.1 in
    let at : Reach View g.row.W.Denot = reach c.args.parts.now c.args.port.now.wire.now c.args.port.now.events.now in
    rw (p.1, p.2) (follows_starved g.W.Wire.outside seen_changed (lose c.args.id c.args.broken c.args.self.now) at at refl)

pub returns-clause-follows : goal.returns-clause-follows
returns-clause-follows g c =
    let old : Reach View g.row.W.Denot = reach c.args.parts.now c.args.port.now.wire.now c.args.port.now.events.now in
    let mid : Reach View g.row.W.Denot = reach c.receive_loss.new.parts c.args.port.now.wire.now c.args.port.now.events.now in
    let new : Reach View g.row.W.Denot = reach c.lose_sender.new.parts c.lose_sender.new.port.wire.now c.lose_sender.new.port.events.now in
    loses g.W.Wire.outside c.args.id c.args.self.now c.args.broken c.in_ok-exception.exception c.receive_loss.new.self old mid new
    (after_of c.lose_sender.new.self c.lose_sender.result) c.in_ok-exception.ensures c.receive_loss.ensures.tells refl c.lose_sender.ensures.follows
