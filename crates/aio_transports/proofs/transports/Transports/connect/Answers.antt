use Rattle.std.proofs.Common.{◌<◌, ◌^◌, length, sym, subst}
use Rattle.model_stream.specs.Streams.{connect}
use Rattle.aio_exchange.specs.Follows.{Reach, reach}
use Rattle.aio_task.specs.View.{View}
use Rattle.aio_transports.specs.Kept.{Kept, kept_all}
use Rattle.aio_transports.specs.Owned.{OwnsTransports}
use Rattle.aio_transports.specs.Standing.{Answers}
use Rattle.aio_transports.proofs.Lifting.{answers_on_streams, own_answers_streams}
use Rattle.aio_transports.proofs.Lasting.{connect_keeps}
use Rattle.aio_transports.proofs.transports.Transports.connect.Goals as goal

pub connect-requires-clause-own : goal.connect-requires-clause-own
connect-requires-clause-own g c =
    (subst (OwnsTransports c.args.parts.now) (sym c.self.view_is) c.requires.own).0

pub connect-requires-clause-room : goal.connect-requires-clause-room
connect-requires-clause-room g c =
    subst (λ (k : Kept). length k.streams.connections < 2 ^ 32) (sym c.self.view_is) c.requires.room

pub returns-clause-comes : goal.returns-clause-comes
returns-clause-comes g c =
    let old : Reach View g.row.W.Denot = reach c.args.parts.now c.args.port.now.wire.now c.args.port.now.events.now in
    let new : Reach View g.row.W.Denot = reach c.connect.new.parts c.connect.new.port.wire.now c.connect.new.port.events.now in
    let i = c.self.inside in
    let next = length c.args.parts.now.futures in
    subst (λ (k : Kept). Answers g.W.Wire.outside (connect c.args.number next) k
    (kept_all c.connect.new.streams i.children i.remaining) old new c.connect.result) c.self.view_is
    (answers_on_streams g.W.Wire.outside i.streams i.children i.remaining old new c.connect.result (connect c.args.number next)
    (connect_keeps c.args.number next) c.connect.new.streams
    c.connect.ensures.comes)

pub returns-clause-own : goal.returns-clause-own
returns-clause-own g c =
    let old : Reach View g.row.W.Denot = reach c.args.parts.now c.args.port.now.wire.now c.args.port.now.events.now in
    let new : Reach View g.row.W.Denot = reach c.connect.new.parts c.connect.new.port.wire.now c.connect.new.port.events.now in
    let i = c.self.inside in
    let next = length c.args.parts.now.futures in
    own_answers_streams g.W.Wire.outside i.streams i.children i.remaining old new c.connect.result (connect c.args.number next)
    (connect_keeps c.args.number next) c.connect.new.streams
    c.connect.ensures.comes c.connect.ensures.own (subst (OwnsTransports c.args.parts.now) (sym c.self.view_is) c.requires.own)
