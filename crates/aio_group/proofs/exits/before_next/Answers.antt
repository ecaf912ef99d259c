use Rattle.std.proofs.Common.{subst, sym}
use Rattle.model_loop.specs.Groups.{at_end}
use Rattle.model_loop.specs.Parts.{profile_named}
use Rattle.aio_group.specs.Exits.{last_step, taken_back}
use Rattle.aio_group.specs.Stands.{GroupSteps}
use Rattle.aio_group.proofs.Standing.{no_step}
use Rattle.aio_group.proofs.exits.before_next.Goals as goal

pub returns-in-Waits-clause-steps : goal.returns-in-Waits-clause-steps
returns-in-Waits-clause-steps c =
    subst (λ n. GroupSteps c.args.group.now c.args.parts.now c.args.group.now c.args.parts.now (last_step (profile_named c.args.parts.now.profile) n))
    (sym c.in-Waits.is) (no_step c.args.group.now c.args.parts.now)

pub returns-in-Ends-clause-steps : goal.returns-in-Ends-clause-steps
returns-in-Ends-clause-steps c =
    let a = c.args.group.now in
    let v = c.args.parts.now in
    let b = c.take_back.new.group in
    let w = c.take_back.new.parts in
    let profile = profile_named v.profile in
    subst (λ n. GroupSteps a v b w (last_step profile n)) (sym c.in-Ends.is)
    (subst (λ now. GroupSteps a v b w (taken_back profile now)) c.is_taken_back_last-now.ensures.end c.take_back.ensures.steps)
