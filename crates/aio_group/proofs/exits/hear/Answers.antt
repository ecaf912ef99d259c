use Rattle.std.proofs.Common.{subst, sym}
use Rattle.model_value.specs.declared.input.Input.TheVariants.{Send}
use Rattle.aio_group.specs.Exits.{heard}
use Rattle.aio_group.specs.Stands.{GroupSteps}
use Rattle.aio_group.proofs.Leaving.{heard_stays}
use Rattle.aio_group.proofs.exits.hear.Goals as goal

pub returns-in-Send-clause-steps : goal.returns-in-Send-clause-steps
returns-in-Send-clause-steps c =
    let a = c.args.group.now in
    let v = c.args.parts.now in
    subst (λ i. GroupSteps a v c.wake.new.self v (heard i)) (sym c.in-Send.is)
    (subst (λ h. GroupSteps a v h v (heard (Send c.in-Send._value))) (sym c.wake.ensures) (heard_stays a v (Send c.in-Send._value) tt))

pub returns-in-Throw-clause-steps : goal.returns-in-Throw-clause-steps
returns-in-Throw-clause-steps c =
    subst (λ i. GroupSteps c.args.group.now c.args.parts.now c.hear_cancel.new.group c.hear_cancel.new.parts (heard i)) (sym c.in-Throw.is)
    c.hear_cancel.ensures.steps
