use Rattle.std.proofs.Common.{pos, Some, sym, ap, ◌∙◌}
use Rattle.std.proofs.lemmas.Result.{IfOk-weaker}
use Rattle.model_value.specs.Value.{Int}
use Rattle.model_says.specs.Requests.{bad_argument}
use Rattle.model_loop.specs.Tasks.{cancelling}
use Rattle.aio_body.specs.declared.reply.RequestReply.TheVariants.{Answers}
use Rattle.aio_serve.proofs.Meaning.{count_means, count_refused}
use Rattle.aio_serve.proofs.Reading.{count_read, few_counts}
use Rattle.aio_serve.proofs.Saying.{answers_so, raises_so}
use Rattle.aio_serve.proofs.tasks.cancelling.Goals as goal

pub number-requires : goal.number-requires
number-requires g c = rw c.cancelling.ensures (few_counts c.args.body.now c.requires c.in-Some.task)

pub returns-in-Some : goal.returns-in-Some
returns-in-Some g c task at s h =
    let body = c.args.body.now in
    let other = c.in-Some.task in
    answers_so task at body s _ _ (Int (pos (cancelling s.loop.parts other)))
    (c.number.ensures
    ∙ ap (λ n. Answers (Int (pos n))) (c.cancelling.ensures ∙ count_read (Some task) at body s h.going.in_step.stands other))
    (count_means g.X.Extra.added.meaning task s c.args.x.now other (sym c.as_task.ensures ∙ c.in-Some.is)) h.going.in_step

pub returns-in-None : goal.returns-in-None
returns-in-None g c task =
    let body = c.args.body.now in
    IfOk-weaker c.bad_argument.result _ _ (λ said e at s h.
    raises_so task at body s said _ bad_argument e
    (count_refused g.X.Extra.added.meaning task s c.args.x.now (sym c.as_task.ensures ∙ c.in-None.is)) h.going.in_step)
    c.bad_argument.ensures
