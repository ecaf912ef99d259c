use Rattle.std.proofs.Common.{subst}
use Rattle.model_stream.specs.Requests.{kill}
use Rattle.aio_exchange.specs.Follows.{Reach, reach}
use Rattle.aio_task.specs.View.{View}
use Rattle.aio_transports.specs.Kept.{Kept}
use Rattle.aio_transports.specs.Standing.{Comes}
use Rattle.aio_transports.proofs.Lifting.{comes_on_children}
use Rattle.aio_transports.proofs.Lasting.{kill_keeps}
use Rattle.aio_transports.proofs.transports.Transports.kill.Goals as goal

pub returns-clause-comes : goal.returns-clause-comes
returns-clause-comes g c v =
    let old : Reach View g.row.W.Denot = reach v c.args.port.now.wire.now c.args.port.now.events.now in
    let new : Reach View g.row.W.Denot = reach v c.kill.new.port.wire.now c.kill.new.port.events.now in
    let i = c.self.inside in
    subst (λ (k : Kept). Comes g.W.Wire.outside (kill c.args.child) k k old new c.kill.result) c.self.view_is
    (comes_on_children g.W.Wire.outside i.streams i.children i.remaining old new c.kill.result (kill c.args.child)
    (kill_keeps c.args.child) i.children
    (c.kill.ensures.comes v))
