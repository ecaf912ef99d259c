use Rattle.std.proofs.Common.{sym, subst}
use Rattle.model_stream.specs.Requests.{write_eof}
use Rattle.aio_exchange.specs.Follows.{Reach, reach}
use Rattle.aio_task.specs.View.{View}
use Rattle.aio_transports.specs.Kept.{Kept, kept_all}
use Rattle.aio_transports.specs.Owned.{OwnsTransports}
use Rattle.aio_transports.specs.Standing.{Comes}
use Rattle.aio_transports.proofs.Lifting.{comes_on_streams, own_on_streams}
use Rattle.aio_transports.proofs.Lasting.{write_eof_keeps}
use Rattle.aio_transports.proofs.transports.Transports.write_eof.Goals as goal

pub write_eof-requires-clause-own : goal.write_eof-requires-clause-own
write_eof-requires-clause-own g c =
    (subst (OwnsTransports c.args.parts.now) (sym c.self.view_is) c.requires.own).0

pub returns-clause-comes : goal.returns-clause-comes
returns-clause-comes g c =
    let old : Reach View g.row.W.Denot = reach c.args.parts.now c.args.port.now.wire.now c.args.port.now.events.now in
    let new : Reach View g.row.W.Denot = reach c.write_eof.new.parts c.write_eof.new.port.wire.now c.write_eof.new.port.events.now in
    let i = c.self.inside in
    subst (λ (k : Kept). Comes g.W.Wire.outside (write_eof c.args.conn) k
    (kept_all c.write_eof.new.self i.children i.remaining) old new c.write_eof.result) c.self.view_is
    (comes_on_streams g.W.Wire.outside i.streams i.children i.remaining old new c.write_eof.result (write_eof c.args.conn)
    (write_eof_keeps c.args.conn) c.write_eof.new.self
    c.write_eof.ensures.comes)

pub returns-clause-own : goal.returns-clause-own
returns-clause-own g c =
    let old : Reach View g.row.W.Denot = reach c.args.parts.now c.args.port.now.wire.now c.args.port.now.events.now in
    let new : Reach View g.row.W.Denot = reach c.write_eof.new.parts c.write_eof.new.port.wire.now c.write_eof.new.port.events.now in
    let i = c.self.inside in
    own_on_streams g.W.Wire.outside i.streams i.children i.remaining old new c.write_eof.result (write_eof c.args.conn)
    (write_eof_keeps c.args.conn) c.write_eof.new.self
    c.write_eof.ensures.comes c.write_eof.ensures.own (subst (OwnsTransports c.args.parts.now)
    (sym c.self.view_is) c.requires.own)
