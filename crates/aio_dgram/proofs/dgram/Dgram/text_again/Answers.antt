use Rattle.std.proofs.lemmas.Result.{IfOk-weaker, on_ok_weaker}
use Rattle.model_dgram.specs.Endpoints.{Sends}
use Rattle.aio_dgram.specs.Seen.{kept_of}
use Rattle.aio_dgram.proofs.Kept.{asks_after, asks_text}
use Rattle.aio_dgram.proofs.Places.{is_lost}
use Rattle.aio_dgram.proofs.dgram.Dgram.text_again.Goals as goal

pub returns-in-Some-clause-text : goal.returns-in-Some-clause-text
returns-in-Some-clause-text c =
    let a = c.args in
    IfOk-weaker c.offer.result _ _
    (λ text h. asks_text (kept_of a.self.now) a.place c.in-Some.it.now text c.in-Some.ensures.value h) c.offer.ensures.text

pub returns-in-Some-clause-after : goal.returns-in-Some-clause-after
returns-in-Some-clause-after c =
    let a = c.args in
    on_ok_weaker c.offer.result
    (λ after. asks_after (kept_of a.self.now) (c.get_mut.follows.lender c.offer.new.self).entries a.place c.in-Some.it.now c.offer.new.self
    c.in-Some.ensures.value (c.get_mut.follows.holds c.offer.new.self).0 after) c.offer.ensures.after

pub returns-in-None-clause-text : goal.returns-in-None-clause-text
returns-in-None-clause-text c = λ id it on e. is_lost c.args.self.now.waiting.entries c.args.place (Sends id it on) c.in-None.ensures.value e
