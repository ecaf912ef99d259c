use Rattle.std.proofs.Common.{◌≡◌, Bool, true, false, not, ◌&&◌, refl, ap, sym, ◌∙◌}
use Rattle.std.specs.Prelude.{is_some}
use Rattle.aio_group.proofs.Leaving.{raised_steps, raised_stays}
use Rattle.aio_group.proofs.exits.abort_if.Goals as goal

unless : (b : Bool) → (b && not true) ≡ false
unless true = refl
unless false = refl

pub returns-then-not-failed-clause-steps : goal.returns-then-not-failed-clause-steps
returns-then-not-failed-clause-steps c = λ raised e.
    raised_stays c.args.group.now c.args.parts.now raised
    (ap (λ b. b && not c.args.group.now.aborting) (sym e ∙ c.if-not-failed.true))

pub returns-then-aborts-clause-steps : goal.returns-then-aborts-clause-steps
returns-then-aborts-clause-steps c = λ raised e.
    raised_stays c.args.group.now c.args.parts.now raised
    (ap (λ b. is_some raised && not b) (sym c.if-aborts.ensures) ∙ unless (is_some raised))

pub returns-clause-steps : goal.returns-clause-steps
returns-clause-steps c = λ raised e.
    raised_steps c.args.group.now c.abort.new.group c.args.parts.now c.abort.new.parts raised
    (ap (λ b. b && not c.args.group.now.aborting) (sym e ∙ c.if-not-failed.false) ∙ ap not (sym c.if-aborts.ensures))
    c.abort.ensures.steps
