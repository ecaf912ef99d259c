use Rattle.std.proofs.Common.{Some, None, sym, ap, ◌∙◌}
use Rattle.std.proofs.lemmas.Result.{IfOk-weaker}
use Rattle.std.specs.Option.{option_copied}
use Rattle.model_says.specs.Requests.{bad_argument}
use Rattle.model_machine.specs.Replies.{result_of, not_set}
use Rattle.aio_serve.proofs.Meaning.{result_means, result_refused}
use Rattle.aio_serve.proofs.Reading.{awaited_as, outcome_read}
use Rattle.aio_serve.proofs.Saying.{raises_so, replied_so}
use Rattle.aio_serve.proofs.futures.result_of.Goals as goal

pub returns-in_default : goal.returns-in_default
returns-in_default g c task =
    let body = c.args.body.now in
    IfOk-weaker c.bad_argument.result _ _ (λ said e at s h.
    raises_so task at body s said _ bad_argument e
    (result_refused g.X.Extra.added.meaning task s c.args.x.now
    (awaited_as task at body s h.going c.args.x.now None (sym c.as_awaited.ensures ∙ c.in_default.is))) h.going.in_step)
    c.bad_argument.ensures

pub returns-in-Some-outcome : goal.returns-in-Some-outcome
returns-in-Some-outcome g c task =
    let body = c.args.body.now in
    let x = c.args.x.now in
    let on = c.in-Some.on in
    let named = sym c.as_awaited.ensures ∙ c.in-Some.is in
    IfOk-weaker c.replied.result _ _ (λ said e at s h.
    replied_so task at body s said _ c.in-Some-outcome.outcome.now e
    (result_means g.X.Extra.added.meaning task s x on (awaited_as task at body s h.going x (Some on) named)
    ∙ ap (λ o. result_of o s) (sym (outcome_read task at body s h.going x on named) ∙ sym c.outcome.ensures ∙ ap option_copied c.in-Some-outcome.is))
    h.going.in_step)
    c.replied.ensures

pub returns-in-None : goal.returns-in-None
returns-in-None g c task =
    let body = c.args.body.now in
    let x = c.args.x.now in
    let on = c.in-Some.on in
    let named = sym c.as_awaited.ensures ∙ c.in-Some.is in
    IfOk-weaker c.raises.result _ _ (λ said e at s h.
    raises_so task at body s said _ not_set e
    (result_means g.X.Extra.added.meaning task s x on (awaited_as task at body s h.going x (Some on) named)
    ∙ ap (λ o. result_of o s) (sym (outcome_read task at body s h.going x on named) ∙ sym c.outcome.ensures ∙ ap option_copied c.in-None.is))
    h.going.in_step)
    c.raises.ensures
