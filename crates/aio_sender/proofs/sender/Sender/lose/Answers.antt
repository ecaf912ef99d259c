use Rattle.std.proofs.Common.{◌∙◌, [], refl, ap}
use Rattle.std.proofs.lemmas.Result.{err_from_is_err_and}
use Rattle.model_stream.specs.Senders.{Sender, lose_sender, waiting_for_loss}
use Rattle.aio_exchange.specs.Follows.{Reach, reach}
use Rattle.aio_exchange.specs.Ways.{changed_on}
use Rattle.aio_exchange.proofs.Following.{follows_starved}
use Rattle.law_stream.specs.SoundSenders.{outlet_of}
use Rattle.aio_task.specs.View.{View}
use Rattle.aio_change.specs.Owned.{settled_way}
use Rattle.aio_change.specs.Seen.{seen_changed}
use Rattle.aio_sender.proofs.Offering.{loses_met, loses_so}
use Rattle.aio_sender.proofs.sender.Sender.lose.Goals as goal

pub returns-in_err-outcome-clause-follows : goal.returns-in_err-outcome-clause-follows
returns-in_err-outcome-clause-follows g c =
    let p = err_from_is_err_and c.from_residual.result c.from_residual.ensures.1 in
    let at : Reach View g.row.W.Denot = reach c.args.parts.now c.args.port.now.wire.now c.args.port.now.events.now in
    rw (p.1, p.2)
    (follows_starved g.W.Wire.outside seen_changed (lose_sender (outlet_of c.args.whom) c.args.broken c.args.self.now) at at refl)

pub returns-in_err-told-clause-follows : goal.returns-in_err-told-clause-follows
returns-in_err-told-clause-follows g c =
    let p = err_from_is_err_and c.from_residual-in_err-told.result c.from_residual-in_err-told.ensures.1 in
    let old : Reach View g.row.W.Denot = reach c.args.parts.now c.args.port.now.wire.now c.args.port.now.events.now in
    let new : Reach View g.row.W.Denot = reach c.tell_loss-told.new.parts c.args.port.now.wire.now c.args.port.now.events.now in
    rw (p.1, p.2)
    (follows_starved g.W.Wire.outside seen_changed (lose_sender (outlet_of c.args.whom) c.args.broken c.args.self.now) old new refl)

pub returns-in_err-ask-clause-follows : goal.returns-in_err-ask-clause-follows
returns-in_err-ask-clause-follows g c =
    let p = err_from_is_err_and c.from_residual-in_err-ask.result c.from_residual-in_err-ask.ensures.1 in
    let s = c.args.self.now in
    let to = outlet_of c.args.whom in
    let old : Reach View g.row.W.Denot = reach c.args.parts.now c.args.port.now.wire.now c.args.port.now.events.now in
    let mid : Reach View g.row.W.Denot = reach c.tell_loss-told.new.parts c.args.port.now.wire.now c.args.port.now.events.now in
    let new : Reach View g.row.W.Denot = reach c.tell_loss-told.new.parts c.ask.new.port.wire.now c.ask.new.port.events.now in
    rw (p.1, p.2)
    (loses_met g.W.Wire.outside to s c.args.broken c.closes.result c.closes.ensures old mid
    (c.in_ok-told.ensures.after ∙ ap (λ it. changed_on seen_changed (settled_way it (waiting_for_loss s)) c.args.parts.now) c.in_ok-outcome.ensures)
    refl c.in_err-ask.field-0.0 new c.in_err-ask.ensures.asks refl)

pub returns-clause-follows : goal.returns-clause-follows
returns-clause-follows g c =
    let s = c.args.self.now in
    let to = outlet_of c.args.whom in
    let old : Reach View g.row.W.Denot = reach c.args.parts.now c.args.port.now.wire.now c.args.port.now.events.now in
    let mid : Reach View g.row.W.Denot = reach c.tell_loss-told.new.parts c.args.port.now.wire.now c.args.port.now.events.now in
    let new : Reach View g.row.W.Denot = reach c.tell_loss-told.new.parts c.ask.new.port.wire.now c.ask.new.port.events.now in
    loses_so g.W.Wire.outside to s c.args.broken c.closes.result c.closes.ensures old mid
    (c.in_ok-told.ensures.after ∙ ap (λ it. changed_on seen_changed (settled_way it (waiting_for_loss s)) c.args.parts.now) c.in_ok-outcome.ensures)
    refl c.in_ok-ask.field-0 c.clear_drains.new.self new c.in_ok-ask.ensures.asks refl
    (c.clear_drains.ensures ∙ ap (λ (a : Sender). record a { drains = [] }) c.end_as.ensures)
