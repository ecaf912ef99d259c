use Rattle.std.proofs.Common.{Some, None, is_some, sym, ap, ◌∙◌}
use Rattle.std.proofs.lemmas.Result.{IfOk-weaker}
use Rattle.model_value.specs.Value.{Truth}
use Rattle.model_says.specs.Requests.{bad_argument}
use Rattle.model_loop.specs.Futures.{future_outcome}
use Rattle.aio_body.specs.declared.reply.RequestReply.TheVariants.{Answers}
use Rattle.aio_serve.proofs.Meaning.{done_means, done_refused}
use Rattle.aio_serve.proofs.Reading.{awaited_as, awaited_done}
use Rattle.aio_serve.proofs.Saying.{answers_so, raises_so}
use Rattle.aio_serve.proofs.futures.is_done.Goals as goal

pub returns-in-Some : goal.returns-in-Some
returns-in-Some g c task at s h =
    let body = c.args.body.now in
    let x = c.args.x.now in
    let on = c.in-Some.on in
    let named = sym c.as_awaited.ensures ∙ c.in-Some.is in
    answers_so task at body s _ _ (Truth (is_some (future_outcome s.loop.parts on)))
    (ap Answers (c.bool.ensures ∙ ap Truth (c.is_some.ensures ∙ awaited_done task at body s h.going x on named c.outcome.result c.outcome.ensures)))
    (done_means g.X.Extra.added.meaning task s x on (awaited_as task at body s h.going x (Some on) named)) h.going.in_step

pub returns-in-None : goal.returns-in-None
returns-in-None g c task =
    let body = c.args.body.now in
    IfOk-weaker c.bad_argument.result _ _ (λ said e at s h.
    raises_so task at body s said _ bad_argument e
    (done_refused g.X.Extra.added.meaning task s c.args.x.now
    (awaited_as task at body s h.going c.args.x.now None (sym c.as_awaited.ensures ∙ c.in-None.is))) h.going.in_step)
    c.bad_argument.ensures
