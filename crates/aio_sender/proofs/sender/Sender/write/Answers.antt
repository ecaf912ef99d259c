use Rattle.std.proofs.Common.{◌∙◌, refl, sym}
use Rattle.std.proofs.lemmas.Result.{err_from_is_err_and}
use Rattle.model_stream.specs.declared.answers.Wrote.TheVariants as wrote
use Rattle.model_stream.specs.declared.put.Put.TheVariants as put_as
use Rattle.model_stream.specs.Senders.{write}
use Rattle.aio_exchange.specs.Follows.{Reach, reach}
use Rattle.aio_exchange.proofs.Following.{follows_starved}
use Rattle.law_stream.specs.SoundSenders.{outlet_of}
use Rattle.aio_task.specs.View.{View}
use Rattle.aio_change.specs.Seen.{seen_changed}
use Rattle.aio_sender.proofs.Offering.{write_stopped, wrote_at_once, wrote_offered}
use Rattle.aio_sender.proofs.sender.Sender.write.Goals as goal

pub returns-in_err-put-clause-follows : goal.returns-in_err-put-clause-follows
returns-in_err-put-clause-follows g c =
    let p = err_from_is_err_and c.from_residual.result c.from_residual.ensures.1 in
    let at : Reach View g.row.W.Denot = reach c.args.parts.now c.args.port.now.wire.now c.args.port.now.events.now in
    rw (p.1, p.2)
    (follows_starved g.W.Wire.outside seen_changed (write (outlet_of c.args.whom) c.args.piece.now c.args.self.now) at at refl)

pub returns-in-AfterEof-clause-follows : goal.returns-in-AfterEof-clause-follows
returns-in-AfterEof-clause-follows g c =
    let at : Reach View g.row.W.Denot = reach c.args.parts.now c.args.port.now.wire.now c.args.port.now.events.now in
    wrote_at_once g.W.Wire.outside (outlet_of c.args.whom) c.args.self.now c.args.piece.now put_as.AfterEof wrote.AfterEof c.put.new.self at
    (sym c.in-AfterEof.is ∙ c.in_ok-put.ensures.answer) refl c.in_ok-put.ensures.after

pub returns-in-Kept-clause-follows : goal.returns-in-Kept-clause-follows
returns-in-Kept-clause-follows g c =
    let at : Reach View g.row.W.Denot = reach c.args.parts.now c.args.port.now.wire.now c.args.port.now.events.now in
    wrote_at_once g.W.Wire.outside (outlet_of c.args.whom) c.args.self.now c.args.piece.now put_as.Kept wrote.Done c.put.new.self at
    (sym c.in-Kept.is ∙ c.in_ok-put.ensures.answer) refl c.in_ok-put.ensures.after

pub returns-in-Empty-clause-follows : goal.returns-in-Empty-clause-follows
returns-in-Empty-clause-follows g c =
    let at : Reach View g.row.W.Denot = reach c.args.parts.now c.args.port.now.wire.now c.args.port.now.events.now in
    wrote_at_once g.W.Wire.outside (outlet_of c.args.whom) c.args.self.now c.args.piece.now put_as.Empty wrote.Done c.put.new.self at
    (sym c.in-Empty.is ∙ c.in_ok-put.ensures.answer) refl c.in_ok-put.ensures.after

pub returns-in-Dropped-clause-follows : goal.returns-in-Dropped-clause-follows
returns-in-Dropped-clause-follows g c =
    let at : Reach View g.row.W.Denot = reach c.args.parts.now c.args.port.now.wire.now c.args.port.now.events.now in
    wrote_at_once g.W.Wire.outside (outlet_of c.args.whom) c.args.self.now c.args.piece.now put_as.Dropped wrote.Done c.put.new.self at
    (sym c.in-Dropped.is ∙ c.in_ok-put.ensures.answer) refl c.in_ok-put.ensures.after

pub returns-in_ok-offer_unsent-in-Offer-clause-follows : goal.returns-in_ok-offer_unsent-in-Offer-clause-follows
returns-in_ok-offer_unsent-in-Offer-clause-follows g c =
    let old : Reach View g.row.W.Denot = reach c.args.parts.now c.args.port.now.wire.now c.args.port.now.events.now in
    let new : Reach View g.row.W.Denot = reach c.offer_unsent.new.parts c.offer_unsent.new.port.wire.now c.offer_unsent.new.port.events.now in
    wrote_offered g.W.Wire.outside (outlet_of c.args.whom) c.args.self.now c.args.piece.now c.put.new.self c.offer_unsent.new.self old new
    (sym c.in-Offer.is ∙ c.in_ok-put.ensures.answer) c.in_ok-put.ensures.after c.in_ok-offer_unsent-in-Offer.ensures.follows

pub returns-in_err-offer_unsent-in-Offer-clause-follows : goal.returns-in_err-offer_unsent-in-Offer-clause-follows
returns-in_err-offer_unsent-in-Offer-clause-follows g c =
    let p = err_from_is_err_and c.from_residual-in_err-offer_unsent-in-Offer.result c.from_residual-in_err-offer_unsent-in-Offer.ensures.1 in
    let old : Reach View g.row.W.Denot = reach c.args.parts.now c.args.port.now.wire.now c.args.port.now.events.now in
    let new : Reach View g.row.W.Denot = reach c.offer_unsent.new.parts c.offer_unsent.new.port.wire.now c.offer_unsent.new.port.events.now in
    rw (p.1, p.2)
    (write_stopped g.W.Wire.outside (outlet_of c.args.whom) c.args.self.now c.args.piece.now c.put.new.self
    c.in_err-offer_unsent-in-Offer.field-0.0 old new (sym c.in-Offer.is ∙ c.in_ok-put.ensures.answer) c.in_ok-put.ensures.after
    c.in_err-offer_unsent-in-Offer.ensures.follows)
