use Rattle.std.proofs.Common.{◌≡◌, ℕ, suc, ◌-◌, ◌<◌, Ok, Err, length, ◌∙◌, refl, sym, subst, arith}
use Rattle.std.proofs.lemmas.Result.{err_from_is_err_and}
use Rattle.model_stream.specs.Streams.{accept_most}
use Rattle.aio_wire.specs.declared.stop.Stop.TheVariants as stop
use Rattle.aio_exchange.specs.Follows.{Reach, reach}
use Rattle.aio_task.specs.View.{View}
use Rattle.aio_stream.specs.Standing.{Comes}
use Rattle.aio_listener.proofs.Accepts.{accepts_over, round_met, round_on, round_over, round_starved}
use Rattle.aio_listener.proofs.accepting.+accept_most.Goals as goal

one_less : (more : ℕ) → 0 < more → suc (more - 1) ≡ more
one_less more h = omega (arith, h)

pub returns-then-not-accepts-clause-comes : goal.returns-then-not-accepts-clause-comes
returns-then-not-accepts-clause-comes g t c =
    let at : Reach View g.row.W.Denot = reach c.args.parts.now c.args.port.now.wire.now c.args.port.now.events.now in
    accepts_over g.W.Wire.outside c.args.server c.args.handler c.args.streams.now c.args.more (length c.args.parts.now.futures) at
    (c.accepts.ensures.stops c.if-not-accepts.true)

pub returns-in_err-came-clause-comes : goal.returns-in_err-came-clause-comes
returns-in_err-came-clause-comes g t c =
    let p = err_from_is_err_and c.from_residual.result c.from_residual.ensures.1 in
    let old : Reach View g.row.W.Denot = reach c.args.parts.now c.args.port.now.wire.now c.args.port.now.events.now in
    let mid : Reach View g.row.W.Denot = reach c.args.parts.now c.ask.new.port.wire.now c.ask.new.port.events.now in
    let next = length c.args.parts.now.futures in
    rw (p.1, p.2)
    (subst (λ (more : ℕ). Comes {R = Unit {0}} g.W.Wire.outside (accept_most more c.args.server c.args.handler next) c.args.streams.now c.args.streams.now old
    mid
    (Err c.in_err-came.field-0.0)) (one_less c.args.more (c.accepts.ensures.goes c.if-not-accepts.false).0)
    (round_met g.W.Wire.outside c.args.server c.args.handler c.args.streams.now (c.args.more - 1) next
    (c.accepts.ensures.goes c.if-not-accepts.false).1 old mid refl c.args.streams.now c.in_err-came.field-0.0 c.in_err-came.ensures.asks))

pub returns-then-not-comes-clause-comes : goal.returns-then-not-comes-clause-comes
returns-then-not-comes-clause-comes g t c =
    let old : Reach View g.row.W.Denot = reach c.args.parts.now c.args.port.now.wire.now c.args.port.now.events.now in
    let mid : Reach View g.row.W.Denot = reach c.args.parts.now c.ask.new.port.wire.now c.ask.new.port.events.now in
    let next = length c.args.parts.now.futures in
    subst (λ (more : ℕ). Comes {R = Unit {0}} g.W.Wire.outside (accept_most more c.args.server c.args.handler next) c.args.streams.now c.args.streams.now old
    mid
    (Ok tt)) (one_less c.args.more (c.accepts.ensures.goes c.if-not-accepts.false).0)
    (round_over g.W.Wire.outside c.args.server c.args.handler c.args.streams.now (c.args.more - 1) next
    (c.accepts.ensures.goes c.if-not-accepts.false).1 old mid refl c.in_ok-came.came c.in_ok-came.ensures.asks
    (sym c.is_conn-comes.ensures ∙ c.if-not-comes.true))

pub returns-in_err-accept-clause-comes : goal.returns-in_err-accept-clause-comes
returns-in_err-accept-clause-comes g t c =
    let p = err_from_is_err_and c.from_residual-in_err-accept.result c.from_residual-in_err-accept.ensures.1 in
    let old : Reach View g.row.W.Denot = reach c.args.parts.now c.args.port.now.wire.now c.args.port.now.events.now in
    let mid : Reach View g.row.W.Denot = reach c.args.parts.now c.ask.new.port.wire.now c.ask.new.port.events.now in
    let new : Reach View g.row.W.Denot = reach c.accept.new.parts c.ask.new.port.wire.now c.ask.new.port.events.now in
    let next = length c.args.parts.now.futures in
    rw (p.1, p.2)
    (subst (λ (more : ℕ). Comes {R = Unit {0}} g.W.Wire.outside (accept_most more c.args.server c.args.handler next) c.args.streams.now c.accept.new.streams
    old new
    (Err stop.Memory)) (one_less c.args.more (c.accepts.ensures.goes c.if-not-accepts.false).0)
    (round_starved g.W.Wire.outside c.args.server c.args.handler c.args.streams.now (c.args.more - 1) next
    (c.accepts.ensures.goes c.if-not-accepts.false).1 old mid refl c.in_ok-came.came c.in_ok-came.ensures.asks c.accept.new.streams new refl))

pub returns-clause-comes : goal.returns-clause-comes
returns-clause-comes g t c =
    let old : Reach View g.row.W.Denot = reach c.args.parts.now c.args.port.now.wire.now c.args.port.now.events.now in
    let mid : Reach View g.row.W.Denot = reach c.args.parts.now c.ask.new.port.wire.now c.ask.new.port.events.now in
    let third : Reach View g.row.W.Denot = reach c.accept.new.parts c.ask.new.port.wire.now c.ask.new.port.events.now in
    let new : Reach View g.row.W.Denot = reach c.accept_most.new.parts c.accept_most.new.port.wire.now c.accept_most.new.port.events.now in
    let next = length c.args.parts.now.futures in
    subst (λ (more : ℕ). Comes g.W.Wire.outside (accept_most more c.args.server c.args.handler next) c.args.streams.now c.accept_most.new.streams old new
    c.accept_most.result) (one_less c.args.more (c.accepts.ensures.goes c.if-not-accepts.false).0)
    (round_on g.W.Wire.outside c.args.server c.args.handler c.args.streams.now (c.args.more - 1) next
    (c.accepts.ensures.goes c.if-not-accepts.false).1 old mid refl c.in_ok-came.came c.in_ok-came.ensures.asks c.accept.new.streams
    c.accept_most.new.streams third new c.accept_most.result (sym c.is_conn-comes.ensures ∙ c.if-not-comes.false) c.in_ok-accept.ensures.told refl
    (subst (λ (n : ℕ). Comes g.W.Wire.outside (accept_most (c.args.more - 1) c.args.server c.args.handler n) c.accept.new.streams c.accept_most.new.streams
    third new
    c.accept_most.result) c.in_ok-accept.ensures.next c.accept_most.ensures.comes))
