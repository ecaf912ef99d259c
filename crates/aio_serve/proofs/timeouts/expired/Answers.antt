use Rattle.std.proofs.Common.{sym, ap, ◌∙◌}
use Rattle.std.proofs.lemmas.Result.{IfOk-weaker}
use Rattle.model_value.specs.Value.{Truth}
use Rattle.model_says.specs.Requests.{bad_argument}
use Rattle.model_loop.specs.Timeouts.{has_expired, timeout_of}
use Rattle.aio_body.specs.declared.reply.RequestReply.TheVariants.{Answers}
use Rattle.aio_serve.proofs.Saying.{answers_so, raises_so}
use Rattle.aio_serve.proofs.Timing.{expired_goes, expired_unfit}
use Rattle.aio_serve.proofs.timeouts.expired.Goals as goal

pub returns-in-Some : goal.returns-in-Some
returns-in-Some g c task at s h =
    let body = c.args.body.now in
    let id = c.in-Some.id in
    let stands = h.going.in_step.stands in
    answers_so task at body s _ _ (Truth (has_expired (timeout_of s.loop id).state))
    (ap Answers (c.bool.ensures ∙ ap Truth (c.has_expired.ensures stands.name_map s.loop stands.blocks.timeouts)))
    (expired_goes g.X.Extra.added.meaning task s c.args.timeout.now id (sym c.as_timeout.ensures ∙ c.in-Some.is)) h.going.in_step

pub returns-in-None : goal.returns-in-None
returns-in-None g c task =
    IfOk-weaker c.bad_argument.result _ _ (λ said e at s h.
    raises_so task at c.args.body.now s said _ bad_argument e
    (expired_unfit g.X.Extra.added.meaning task s c.args.timeout.now (sym c.as_timeout.ensures ∙ c.in-None.is)) h.going.in_step)
    c.bad_argument.ensures
