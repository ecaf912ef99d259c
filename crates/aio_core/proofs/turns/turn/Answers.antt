use Rattle.std.proofs.Common.{◌∙◌, sym}
use Rattle.aio_core.proofs.Answered.{alive_then, made_then, time_then}
use Rattle.aio_core.proofs.Made.{made_stalled, made_starved, made_stopped}
use Rattle.aio_core.proofs.turns.turn.Goals as goal

pub returns-then-is_stalled : goal.returns-then-is_stalled
returns-then-is_stalled g c =
    made_stalled g.X.Extra.added g.W.Wire.outside c.args.body.now c.args.wire.now (λ d s h. sym c.if-is_stalled.true ∙ c.is_stalled.ensures d s h)

-- ---- memory was refused before the call
pub returns-in-Err : goal.returns-in-Err
returns-in-Err g c = made_starved g.X.Extra.added g.W.Wire.outside c.args.body.now c.args.wire.now c.first_call.new.body

-- ---- the call has no answer that fits
pub returns-in-Err-ask : goal.returns-in-Err-ask
returns-in-Err-ask g c =
    made_stopped g.X.Extra.added g.W.Wire.outside c.args.body.now c.args.wire.now c.in-Ok.call c.in-Ok.ensures.call
    (λ d s h. sym c.if-is_stalled.false ∙ c.is_stalled.ensures d s h) c.first_call.new.body c.in-Ok.ensures.stands c.ask.new.body
    c.ask.new.wire c.in-Err-ask.stop c.in-Err-ask.ensures.asked

-- ---- it has its answer
pub after-requires-clause-alive : goal.after-requires-clause-alive
after-requires-clause-alive g c =
    alive_then g.X.Extra.added g.W.Wire.outside c.args.body.now c.in-Ok.call c.in-Ok.ensures.call
    (λ d s h. sym c.if-is_stalled.false ∙ c.is_stalled.ensures d s h) c.first_call.new.body c.in-Ok.ensures.stands c.in-Ok-ask.answer
    c.ask.new.body c.in-Ok-ask.ensures.frame c.args.wire.now c.ask.new.wire c.in-Ok-ask.ensures.asked c.requires

pub after-requires-clause-time : goal.after-requires-clause-time
after-requires-clause-time g c =
    time_then g.X.Extra.added g.W.Wire.outside c.args.body.now c.in-Ok.call c.in-Ok.ensures.call
    (λ d s h. sym c.if-is_stalled.false ∙ c.is_stalled.ensures d s h) c.first_call.new.body c.in-Ok.ensures.stands c.in-Ok-ask.answer
    c.ask.new.body c.in-Ok-ask.ensures.frame c.args.wire.now c.ask.new.wire c.in-Ok-ask.ensures.asked c.in-Ok.ensures.shape

pub returns-in-Ok-ask : goal.returns-in-Ok-ask
returns-in-Ok-ask g c =
    made_then g.X.Extra.added g.W.Wire.outside c.args.body.now c.in-Ok.call c.in-Ok.ensures.call
    (λ d s h. sym c.if-is_stalled.false ∙ c.is_stalled.ensures d s h) c.first_call.new.body c.in-Ok.ensures.stands c.in-Ok-ask.answer
    c.ask.new.body c.in-Ok-ask.ensures.frame c.args.wire.now c.ask.new.wire c.in-Ok-ask.ensures.asked c.after.new.body c.after.new.wire
    c.after.result c.after.ensures c.requires
