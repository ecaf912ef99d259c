use Rattle.std.proofs.Common.{Some, None, ◌∙◌, sym, ap}
use Rattle.std.proofs.lemmas.Result.{IfOk-weaker}
use Rattle.std.specs.Option.{option_copied}
use Rattle.model_value.specs.declared.input.Input.TheVariants.{Send}
use Rattle.model_machine.specs.Sound.{sends_made}
use Rattle.aio_body.specs.Ids.{ids_in}
use Rattle.aio_core.proofs.Inputs.{woken_none, woken_on, woken_sends_may}
use Rattle.aio_core.proofs.handles.woken_with.Goals as goal

pub returns-in_default-clause-input : goal.returns-in_default-clause-input
returns-in_default-clause-input g c =
    λ d s h. ap Send c.nothing.ensures ∙ woken_none c.args.task d c.args.body.now s h (sym c.waiter.ensures ∙ c.in_default.is)

pub returns-in_default-clause-made : goal.returns-in_default-clause-made
returns-in_default-clause-made g c = ap (λ v. sends_made (ids_in c.args.body.now) (Send v)) c.nothing.ensures

pub returns-in-Some-outcome-clause-input : goal.returns-in-Some-outcome-clause-input
returns-in-Some-outcome-clause-input g c =
    IfOk-weaker c.input_of.result _ _
    (λ input is d s h. is ∙ woken_on c.args.task d c.args.body.now s h c.in-Some.on (Some c.in-Some-outcome.outcome.now) (sym c.waiter.ensures ∙ c.in-Some.is)
    (sym c.outcome.ensures ∙ ap option_copied c.in-Some-outcome.is)) c.input_of.ensures

pub returns-in-Some-outcome-clause-made : goal.returns-in-Some-outcome-clause-made
returns-in-Some-outcome-clause-made g c =
    IfOk-weaker c.input_of.result _ _
    (λ input is. woken_sends_may c.args.task c.args.body.now input c.requires
    (λ d s h. is ∙ woken_on c.args.task d c.args.body.now s h c.in-Some.on (Some c.in-Some-outcome.outcome.now) (sym c.waiter.ensures ∙ c.in-Some.is)
    (sym c.outcome.ensures ∙ ap option_copied c.in-Some-outcome.is))) c.input_of.ensures

pub returns-in-None-clause-input : goal.returns-in-None-clause-input
returns-in-None-clause-input g c =
    λ d s h. ap Send c.nothing-in-None.ensures
    ∙ woken_on c.args.task d c.args.body.now s h c.in-Some.on None (sym c.waiter.ensures ∙ c.in-Some.is) (sym c.outcome.ensures ∙ ap option_copied c.in-None.is)

pub returns-in-None-clause-made : goal.returns-in-None-clause-made
returns-in-None-clause-made g c = ap (λ v. sends_made (ids_in c.args.body.now) (Send v)) c.nothing-in-None.ensures
