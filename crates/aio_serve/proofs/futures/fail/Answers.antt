use Rattle.std.proofs.Common.{sym, ap, ◌∙◌}
use Rattle.std.proofs.lemmas.Result.{IfOk-weaker}
use Rattle.std.proofs.Common.{option_map, subst}
use Rattle.model_value.specs.declared.outcome.Outcome.TheVariants.{Failed}
use Rattle.aio_body.specs.Asked.{Says}
use Rattle.aio_serve.proofs.Meaning.{fail_means}
use Rattle.aio_serve.proofs.futures.fail.Goals as goal

pub returns : goal.returns
returns g c task =
    IfOk-weaker c.settle.result _ _ (λ said says at s h.
    subst (Says task at c.settle.new.body said)
    (sym (fail_means g.X.Extra.added.meaning task s c.args.future.now c.args.fault.now _
    (c.failed_with-outcome.ensures ∙ ap (option_map Failed) c.in_ok-as_failure.ensures))) (says at s h.going))
    (c.settle.ensures task)
