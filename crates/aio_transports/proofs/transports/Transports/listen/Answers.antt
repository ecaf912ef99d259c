use Rattle.std.proofs.Common.{◌<◌, ◌^◌, length, OnOk, sym, subst}
use Rattle.model_stream.specs.Streams.{listen}
use Rattle.aio_exchange.specs.Follows.{Reach, reach}
use Rattle.aio_task.specs.View.{View}
use Rattle.aio_transports.specs.Kept.{Kept, kept_all}
use Rattle.aio_transports.specs.Owned.{OwnsTransports}
use Rattle.aio_transports.specs.Standing.{Answers}
use Rattle.aio_transports.proofs.Lifting.{answers_on_streams, own_alone}
use Rattle.aio_transports.proofs.Lasting.{listen_keeps}
use Rattle.aio_transports.proofs.transports.Transports.listen.Goals as goal

pub returns-clause-comes : goal.returns-clause-comes
returns-clause-comes g c v =
    let old : Reach View g.row.W.Denot = reach v c.args.port.now.wire.now c.args.port.now.events.now in
    let new : Reach View g.row.W.Denot = reach v c.listen.new.port.wire.now c.listen.new.port.events.now in
    let i = c.self.inside in
    subst (λ (k : Kept). Answers g.W.Wire.outside (listen c.args.number c.args.handler) k
    (kept_all c.listen.new.streams i.children i.remaining) old new c.listen.result) c.self.view_is
    (answers_on_streams g.W.Wire.outside i.streams i.children i.remaining old new c.listen.result (listen c.args.number c.args.handler)
    (listen_keeps c.args.number c.args.handler) c.listen.new.streams (c.listen.ensures.comes v))

pub returns-clause-own : goal.returns-clause-own
returns-clause-own g c =
    let i = c.self.inside in
    subst (λ (k : Kept). OnOk c.listen.result
    ((v : View) → OwnsTransports v k → OwnsTransports v (kept_all c.listen.new.streams i.children i.remaining))) c.self.view_is
    (own_alone i.streams i.children i.remaining c.listen.result c.listen.new.streams c.listen.ensures.own)

pub listen-requires : goal.listen-requires
listen-requires g c =
    record { room = subst (λ (k : Kept). length k.streams.servers < 2 ^ 32) (sym c.self.view_is) c.requires.room }
