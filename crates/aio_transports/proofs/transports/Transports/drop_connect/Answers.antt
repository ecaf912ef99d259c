use Rattle.std.proofs.Common.{sym, subst}
use Rattle.model_stream.specs.Requests.{drop_connect}
use Rattle.aio_exchange.specs.Follows.{Reach, reach}
use Rattle.aio_task.specs.View.{View}
use Rattle.aio_transports.specs.Kept.{Kept, kept_all}
use Rattle.aio_transports.specs.Owned.{OwnsTransports}
use Rattle.aio_transports.specs.Standing.{Comes}
use Rattle.aio_transports.proofs.Lifting.{comes_on_streams, own_on_streams}
use Rattle.aio_transports.proofs.Lasting.{drop_connect_keeps}
use Rattle.aio_transports.proofs.transports.Transports.drop_connect.Goals as goal

pub drop_connect-requires-clause-own : goal.drop_connect-requires-clause-own
drop_connect-requires-clause-own g c =
    (subst (OwnsTransports c.args.parts.now) (sym c.self.view_is) c.requires.own).0

pub returns-clause-comes : goal.returns-clause-comes
returns-clause-comes g c =
    let old : Reach View g.row.W.Denot = reach c.args.parts.now c.args.port.now.wire.now c.args.port.now.events.now in
    let new : Reach View g.row.W.Denot = reach c.drop_connect.new.parts c.drop_connect.new.port.wire.now c.drop_connect.new.port.events.now in
    let i = c.self.inside in
    subst (λ (k : Kept). Comes g.W.Wire.outside (drop_connect c.args.conn) k
    (kept_all c.drop_connect.new.self i.children i.remaining) old new c.drop_connect.result) c.self.view_is
    (comes_on_streams g.W.Wire.outside i.streams i.children i.remaining old new c.drop_connect.result (drop_connect c.args.conn)
    (drop_connect_keeps c.args.conn) c.drop_connect.new.self
    c.drop_connect.ensures.comes)

pub returns-clause-own : goal.returns-clause-own
returns-clause-own g c =
    let old : Reach View g.row.W.Denot = reach c.args.parts.now c.args.port.now.wire.now c.args.port.now.events.now in
    let new : Reach View g.row.W.Denot = reach c.drop_connect.new.parts c.drop_connect.new.port.wire.now c.drop_connect.new.port.events.now in
    let i = c.self.inside in
    own_on_streams g.W.Wire.outside i.streams i.children i.remaining old new c.drop_connect.result (drop_connect c.args.conn)
    (drop_connect_keeps c.args.conn) c.drop_connect.new.self
    c.drop_connect.ensures.comes c.drop_connect.ensures.own (subst (OwnsTransports c.args.parts.now)
    (sym c.self.view_is) c.requires.own)
