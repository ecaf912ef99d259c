use Rattle.std.proofs.lemmas.Result.{IfOk-weaker}
use Rattle.aio_gather.proofs.Drawing.{shield_ended, shield_pending}
use Rattle.aio_gather.proofs.gather.Gather.shield.Goals as goal

pub returns-in-Some : goal.returns-in-Some
returns-in-Some c =
    IfOk-weaker c.at_once.result _ _
    (λ asked seen. λ tags. shield_ended tags c.args.self.now c.at_once.new.self c.args.parts.now c.args.parts.now asked c.in-Some.answer c.args.inner
    c.in_ok-answer.field-0 c.in-Some.is c.in_ok-answer.ensures (seen tags)) c.at_once.ensures

pub returns-in-None : goal.returns-in-None
returns-in-None c =
    IfOk-weaker c.shield_drawn.result _ _
    (λ asked seen. λ tags. shield_pending tags c.args.self.now c.shield_drawn.new.self c.args.parts.now c.shield_drawn.new.parts asked c.args.inner
    c.in_ok-answer.field-0 c.in-None.is c.in_ok-answer.ensures (seen tags)) c.shield_drawn.ensures
