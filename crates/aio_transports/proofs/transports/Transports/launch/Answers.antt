use Rattle.std.proofs.Common.{◌<◌, ◌^◌, Ok, Err, length, sym, subst}
use Rattle.std.proofs.lemmas.Result.{err_from_is_err_and}
use Rattle.model_stream.specs.Streams.{launch}
use Rattle.aio_wire.specs.declared.stop.Stop.TheVariants as stop
use Rattle.aio_exchange.specs.Follows.{Reach, reach}
use Rattle.aio_task.specs.View.{View}
use Rattle.aio_transports.specs.Kept.{Kept, kept_all}
use Rattle.aio_transports.specs.Owned.{OwnsTransports}
use Rattle.aio_transports.specs.Standing.{Answers}
use Rattle.aio_transports.proofs.Launching.{launch_goes, launch_starves, launch_stops, own_launched}
use Rattle.aio_transports.proofs.transports.Transports.launch.Goals as goal

pub launch-requires-clause-own : goal.launch-requires-clause-own
launch-requires-clause-own g c =
    (subst (OwnsTransports c.args.parts.now) (sym c.self.view_is) c.requires.own).1

pub launch-requires-clause-room : goal.launch-requires-clause-room
launch-requires-clause-room g c =
    subst (λ (k : Kept). length k.children.children < 2 ^ 32) (sym c.self.view_is) c.requires.room

pub returns-in_err-launched-clause-comes : goal.returns-in_err-launched-clause-comes
returns-in_err-launched-clause-comes g c =
    let p = err_from_is_err_and c.from_residual.result c.from_residual.ensures.1 in
    let old : Reach View g.row.W.Denot = reach c.args.parts.now c.args.port.now.wire.now c.args.port.now.events.now in
    let new : Reach View g.row.W.Denot = reach c.launch.new.parts c.launch.new.port.wire.now c.launch.new.port.events.now in
    let i = c.self.inside in
    let next = length c.args.parts.now.futures in
    rw (p.1, p.2)
    (subst (λ (k : Kept). Answers g.W.Wire.outside (launch c.args.words next) k
    (kept_all i.streams c.launch.new.self i.remaining) old new
    (Err c.in_err-launched.field-0.0)) c.self.view_is
    (launch_stops g.W.Wire.outside
    c.args.words next i.streams i.children i.remaining c.launch.new.self old new i.streams c.in_err-launched.field-0.0
    c.in_err-launched.ensures.comes))

pub returns-in_err-put_in_order-clause-comes : goal.returns-in_err-put_in_order-clause-comes
returns-in_err-put_in_order-clause-comes g c =
    let p = err_from_is_err_and c.from_residual-in_err-put_in_order.result c.from_residual-in_err-put_in_order.ensures.1 in
    let old : Reach View g.row.W.Denot = reach c.args.parts.now c.args.port.now.wire.now c.args.port.now.events.now in
    let new : Reach View g.row.W.Denot = reach c.launch.new.parts c.launch.new.port.wire.now c.launch.new.port.events.now in
    let i = c.self.inside in
    let next = length c.args.parts.now.futures in
    rw (p.1, p.2)
    (subst (λ (k : Kept). Answers g.W.Wire.outside (launch c.args.words next) k
    (kept_all c.put_in_order.new.streams c.launch.new.self i.remaining) old new
    (Err stop.Memory)) c.self.view_is
    (launch_starves g.W.Wire.outside
    c.args.words next i.streams i.children i.remaining c.launch.new.self old new c.in_ok-launched.launched
    c.put_in_order.new.streams c.in_ok-launched.ensures.comes))

pub returns-clause-comes : goal.returns-clause-comes
returns-clause-comes g c =
    let old : Reach View g.row.W.Denot = reach c.args.parts.now c.args.port.now.wire.now c.args.port.now.events.now in
    let new : Reach View g.row.W.Denot = reach c.launch.new.parts c.launch.new.port.wire.now c.launch.new.port.events.now in
    let i = c.self.inside in
    let next = length c.args.parts.now.futures in
    subst (λ (k : Kept). Answers g.W.Wire.outside (launch c.args.words next) k
    (kept_all c.put_in_order.new.streams c.launch.new.self i.remaining) old new
    (Ok c.in_ok-launched.launched)) c.self.view_is
    (launch_goes g.W.Wire.outside
    c.args.words next i.streams i.children i.remaining c.launch.new.self old new c.in_ok-launched.launched c.put_in_order.new.streams
    c.in_ok-put_in_order.ensures
    c.in_ok-launched.ensures.comes)

pub returns-clause-own : goal.returns-clause-own
returns-clause-own g c =
    let old : Reach View g.row.W.Denot = reach c.args.parts.now c.args.port.now.wire.now c.args.port.now.events.now in
    let new : Reach View g.row.W.Denot = reach c.launch.new.parts c.launch.new.port.wire.now c.launch.new.port.events.now in
    let i = c.self.inside in
    let next = length c.args.parts.now.futures in
    own_launched g.W.Wire.outside
    c.args.words next i.streams i.children i.remaining c.launch.new.self old new c.in_ok-launched.launched c.put_in_order.new.streams
    c.in_ok-put_in_order.ensures
    c.in_ok-launched.ensures.comes c.in_ok-launched.ensures.own (subst (OwnsTransports c.args.parts.now)
    (sym c.self.view_is) c.requires.own)
