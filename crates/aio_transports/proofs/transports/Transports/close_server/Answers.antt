use Rattle.std.proofs.Common.{OnOk, subst}
use Rattle.model_stream.specs.Streams.{close_server}
use Rattle.aio_exchange.specs.Follows.{Reach, reach}
use Rattle.aio_task.specs.View.{View}
use Rattle.aio_transports.specs.Kept.{Kept, kept_all}
use Rattle.aio_transports.specs.Owned.{OwnsTransports}
use Rattle.aio_transports.specs.Standing.{Comes}
use Rattle.aio_transports.proofs.Lifting.{comes_on_streams, own_alone}
use Rattle.aio_transports.proofs.Lasting.{close_server_keeps}
use Rattle.aio_transports.proofs.transports.Transports.close_server.Goals as goal

pub returns-clause-comes : goal.returns-clause-comes
returns-clause-comes g c v =
    let old : Reach View g.row.W.Denot = reach v c.args.port.now.wire.now c.args.port.now.events.now in
    let new : Reach View g.row.W.Denot = reach v c.close_server.new.port.wire.now c.close_server.new.port.events.now in
    let i = c.self.inside in
    subst (λ (k : Kept). Comes g.W.Wire.outside (close_server c.args.id) k
    (kept_all c.close_server.new.streams i.children i.remaining) old new c.close_server.result) c.self.view_is
    (comes_on_streams g.W.Wire.outside i.streams i.children i.remaining old new c.close_server.result (close_server c.args.id)
    (close_server_keeps c.args.id) c.close_server.new.streams (c.close_server.ensures.comes v))

pub returns-clause-own : goal.returns-clause-own
returns-clause-own g c =
    let i = c.self.inside in
    subst (λ (k : Kept). OnOk c.close_server.result
    ((v : View) → OwnsTransports v k → OwnsTransports v
    (kept_all c.close_server.new.streams i.children i.remaining))) c.self.view_is
    (own_alone i.streams i.children i.remaining c.close_server.result c.close_server.new.streams c.close_server.ensures.own)
