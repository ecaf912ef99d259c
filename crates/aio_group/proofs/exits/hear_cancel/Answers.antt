use Rattle.std.proofs.Common.{◌≡◌, Some, None, true, ap, subst, sym, ◌∙◌}
use Rattle.model_value.specs.declared.input.Input.TheVariants.{Throw}
use Rattle.model_loop.specs.Groups.{abort}
use Rattle.aio_group.specs.Exits.{heard}
use Rattle.aio_group.specs.Held.{Held}
use Rattle.aio_group.specs.Stands.{GroupSteps}
use Rattle.aio_group.proofs.Leaving.{heard_stays, heard_steps}
use Rattle.aio_group.proofs.exits.hear_cancel.Goals as goal

pub returns-then-aborts-clause-steps : goal.returns-then-aborts-clause-steps
returns-then-aborts-clause-steps c =
    let a = c.args.group.now in
    let v = c.args.parts.now in
    let aborts : a.aborting ≡ true = sym (ap (λ (h : Held). h.aborting) c.wake.ensures) ∙ sym c.if-aborts.ensures in
    subst (λ h. GroupSteps a v h v (heard (Throw c.args.fault))) (sym c.wake.ensures) (heard_stays a v (Throw c.args.fault) aborts)

pub returns-clause-steps : goal.returns-clause-steps
returns-clause-steps c =
    let a = c.args.group.now in
    let v = c.args.parts.now in
    let w = c.abort.new.parts in
    let fault = c.args.fault in
    let b = c.keep.new.self in
    let quiet = sym (ap (λ (h : Held). h.aborting) c.wake.ensures) ∙ sym c.if-aborts.ensures in
    let kept : b ≡ record a { exit_future = None; kept = Some fault } =
    c.keep.ensures ∙ ap (λ (h : Held). record h { kept = Some fault }) c.wake.ensures in
    let last : c.abort.new.group ≡ record a { exit_future = None; kept = Some fault; aborting = true } =
    c.abort.ensures.same ∙ ap (λ (h : Held). record h { aborting = true }) kept in
    let step : GroupSteps (record a { exit_future = None; kept = Some fault }) v (record a { exit_future = None; kept = Some fault; aborting = true }) w abort =
    subst (λ h. GroupSteps (record a { exit_future = None; kept = Some fault }) v h w abort) last
    (subst (λ h. GroupSteps h v c.abort.new.group w abort) kept c.abort.ensures.steps) in
    subst (λ h. GroupSteps a v h w (heard (Throw fault))) (sym last) (heard_steps a v w fault quiet step)
