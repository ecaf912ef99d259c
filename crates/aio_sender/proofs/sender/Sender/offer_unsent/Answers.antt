use Rattle.std.proofs.Common.{refl}
use Rattle.std.proofs.lemmas.Result.{err_from_is_err_and}
use Rattle.model_stream.specs.Senders.{offered}
use Rattle.model_stream.specs.Sending.{offer}
use Rattle.aio_exchange.specs.Follows.{Reach, reach}
use Rattle.aio_exchange.proofs.Following.{follows_starved}
use Rattle.law_stream.specs.SoundSenders.{outlet_of}
use Rattle.aio_task.specs.View.{View}
use Rattle.aio_change.specs.Seen.{seen_changed}
use Rattle.aio_change.proofs.AfterAsking.{asks_met, asks_starved, asks_told}
use Rattle.aio_sender.specs.Offers.{offers}
use Rattle.aio_sender.proofs.Offering.{within_offer}
use Rattle.aio_sender.proofs.sender.Sender.offer_unsent.Goals as goal

pub offered-done-requires-clause-within : goal.offered-done-requires-clause-within
offered-done-requires-clause-within g c count is =
    let old : Reach View g.row.W.Denot = reach c.args.parts.now c.args.port.now.wire.now c.args.port.now.events.now in
    let mid : Reach View g.row.W.Denot = reach c.args.parts.now c.ask.new.port.wire.now c.ask.new.port.events.now in
    within_offer g.W.Wire.outside c.args.whom (offer c.args.self.now.writer) c.in_ok-call.call c.in_ok-answer.answer old.port mid.port count
    c.in_ok-call.ensures c.in_ok-answer.ensures.asks is

pub returns-in_err-call-clause-follows : goal.returns-in_err-call-clause-follows
returns-in_err-call-clause-follows g c =
    let p = err_from_is_err_and c.from_residual.result c.from_residual.ensures.1 in
    let at : Reach View g.row.W.Denot = reach c.args.parts.now c.args.port.now.wire.now c.args.port.now.events.now in
    rw (p.1, p.2) (follows_starved g.W.Wire.outside seen_changed (offers (outlet_of c.args.whom) c.args.self.now) at at refl)

pub returns-in_err-answer-clause-follows : goal.returns-in_err-answer-clause-follows
returns-in_err-answer-clause-follows g c =
    let p = err_from_is_err_and c.from_residual-in_err-answer.result c.from_residual-in_err-answer.ensures.1 in
    let old : Reach View g.row.W.Denot = reach c.args.parts.now c.args.port.now.wire.now c.args.port.now.events.now in
    let new : Reach View g.row.W.Denot = reach c.args.parts.now c.ask.new.port.wire.now c.ask.new.port.events.now in
    let to = outlet_of c.args.whom in
    rw (p.1, p.2)
    (asks_met g.W.Wire.outside c.in_ok-call.call (to.sends (offer c.args.self.now.writer)) (offered to c.args.self.now) c.in_ok-call.ensures
    c.in_err-answer.field-0.0 old new c.in_err-answer.ensures.asks refl)

pub returns-in_err-done-clause-follows : goal.returns-in_err-done-clause-follows
returns-in_err-done-clause-follows g c =
    let p = err_from_is_err_and c.from_residual-in_err-done.result c.from_residual-in_err-done.ensures.1 in
    let old : Reach View g.row.W.Denot = reach c.args.parts.now c.args.port.now.wire.now c.args.port.now.events.now in
    let mid : Reach View g.row.W.Denot = reach c.args.parts.now c.ask.new.port.wire.now c.ask.new.port.events.now in
    let new : Reach View g.row.W.Denot = reach c.offered-done.new.parts c.ask.new.port.wire.now c.ask.new.port.events.now in
    let to = outlet_of c.args.whom in
    rw (p.1, p.2)
    (asks_starved g.W.Wire.outside c.in_ok-call.call (to.sends (offer c.args.self.now.writer)) (offered to c.args.self.now) c.in_ok-call.ensures
    c.in_ok-answer.answer old mid new c.in_ok-answer.ensures.asks refl refl)

pub returns-clause-follows : goal.returns-clause-follows
returns-clause-follows g c =
    let old : Reach View g.row.W.Denot = reach c.args.parts.now c.args.port.now.wire.now c.args.port.now.events.now in
    let mid : Reach View g.row.W.Denot = reach c.args.parts.now c.ask.new.port.wire.now c.ask.new.port.events.now in
    let new : Reach View g.row.W.Denot = reach c.offered-done.new.parts c.ask.new.port.wire.now c.ask.new.port.events.now in
    let to = outlet_of c.args.whom in
    asks_told g.W.Wire.outside c.in_ok-call.call (to.sends (offer c.args.self.now.writer)) (offered to c.args.self.now) c.in_ok-call.ensures
    c.in_ok-answer.answer old mid new c.offered-done.new.self c.in_ok-answer.ensures.asks refl refl c.in_ok-done.ensures.tells
