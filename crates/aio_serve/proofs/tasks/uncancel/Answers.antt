use Rattle.std.proofs.Common.{pos, Some, sym, ap, ◌∙◌}
use Rattle.std.proofs.lemmas.Result.{IfOk-weaker}
use Rattle.model_value.specs.Value.{Int}
use Rattle.model_says.specs.Requests.{bad_argument}
use Rattle.model_loop.specs.Tasks.{cancelling}
use Rattle.model_loop.specs.Ledger.{ByScript}
use Rattle.model_loop.specs.Loop.{take_one_back}
use Rattle.model_machine.specs.State.{in_loop}
use Rattle.aio_body.proofs.May.{idle_some}
use Rattle.aio_body.specs.declared.reply.RequestReply.TheVariants.{Answers}
use Rattle.aio_serve.proofs.Changing.{uncancels_so, few_left}
use Rattle.aio_serve.proofs.Meaning.{uncancel_means, uncancel_refused}
use Rattle.aio_serve.proofs.Reading.{count_read}
use Rattle.aio_serve.proofs.Saying.{answers_so, raises_so}
use Rattle.aio_serve.proofs.tasks.uncancel.Goals as goal

pub uncancel-requires : goal.uncancel-requires
uncancel-requires g c = record { idle = idle_some c.args.body.now c.requires }

pub number-requires : goal.number-requires
number-requires g c =
    let other = c.in-Some.task in
    rw c.uncancel.ensures.answer
    (few_left c.args.body.now c.uncancel.new.self c.requires other c.uncancel.ensures.after c.uncancel.ensures.frame other)

pub returns-in-Some : goal.returns-in-Some
returns-in-Some g c task at s h =
    let body = c.args.body.now in
    let other = c.in-Some.task in
    let v = c.uncancel.new.self in
    let now = in_loop (take_one_back (ByScript task) other) s in
    let stands = uncancels_so (ByScript task) task other at body s v h.going.in_step c.uncancel.ensures.after c.uncancel.ensures.frame in
    answers_so task at (record body { parts = v }) now _ _ (Int (pos (cancelling now.loop.parts other)))
    (c.number.ensures
    ∙ ap (λ n. Answers (Int (pos n))) (c.uncancel.ensures.answer ∙ count_read (Some task) at (record body { parts = v }) now stands.stands other))
    (uncancel_means g.X.Extra.added.meaning task s c.args.x.now other (sym c.as_task.ensures ∙ c.in-Some.is)) stands

pub returns-in-None : goal.returns-in-None
returns-in-None g c task =
    let body = c.args.body.now in
    IfOk-weaker c.bad_argument.result _ _ (λ said e at s h.
    raises_so task at body s said _ bad_argument e
    (uncancel_refused g.X.Extra.added.meaning task s c.args.x.now (sym c.as_task.ensures ∙ c.in-None.is)) h.going.in_step)
    c.bad_argument.ensures
