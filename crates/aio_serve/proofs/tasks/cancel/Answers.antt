use Rattle.std.proofs.Common.{Some, None, sym, ap, ◌∙◌}
use Rattle.std.proofs.lemmas.Result.{IfOk-weaker}
use Rattle.model_value.specs.Value.{Truth}
use Rattle.model_says.specs.Requests.{bad_argument}
use Rattle.model_loop.specs.Ledger.{ByScript, request}
use Rattle.model_loop.specs.Loop.{book}
use Rattle.model_machine.specs.State.{in_loop}
use Rattle.refine_parts.proofs.Telling.{answer_kept}
use Rattle.aio_body.proofs.May.{idle_some}
use Rattle.aio_body.proofs.Rooms.{requests_so}
use Rattle.aio_body.specs.declared.reply.RequestReply.TheVariants.{Answers}
use Rattle.aio_serve.proofs.Meaning.{cancel_means, cancel_refused}
use Rattle.aio_serve.proofs.Reading.{awaited_as}
use Rattle.aio_serve.proofs.Saying.{answers_so, raises_so}
use Rattle.aio_serve.proofs.tasks.cancel.Goals as goal

pub cancel-requires : goal.cancel-requires
cancel-requires g c = record { idle = idle_some c.args.body.now c.requires }

pub returns-in-Some : goal.returns-in-Some
returns-in-Some g c task at s h =
    let body = c.args.body.now in
    let x = c.args.x.now in
    let on = c.in-Some.on in
    let v = c.cancel.new.self in
    let named = sym c.as_awaited.ensures ∙ c.in-Some.is in
    let kept = h.going.in_step.stands in
    answers_so task at (record body { parts = v }) (in_loop (book (λ p. (request (ByScript task) on p).booked)) s) _ _
    (Truth (request (ByScript task) on s.loop.parts).answer)
    (ap Answers (c.bool.ensures ∙ ap Truth (c.cancel.ensures.answer ∙ answer_kept kept.name_map body.parts s.loop.parts kept.keeps on)))
    (cancel_means g.X.Extra.added.meaning task s x on (awaited_as task at body s h.going x (Some on) named))
    (requests_so (ByScript task) task on at body s v h.going.in_step c.cancel.ensures.after c.cancel.ensures.queue c.cancel.ensures.frame)

pub returns-in-None : goal.returns-in-None
returns-in-None g c task =
    let body = c.args.body.now in
    IfOk-weaker c.bad_argument.result _ _ (λ said e at s h.
    raises_so task at body s said _ bad_argument e
    (cancel_refused g.X.Extra.added.meaning task s c.args.x.now
    (awaited_as task at body s h.going c.args.x.now None (sym c.as_awaited.ensures ∙ c.in-None.is))) h.going.in_step)
    c.bad_argument.ensures
