use Rattle.std.proofs.Common.{[], ap, ◌∙◌}
use Rattle.aio_task.specs.View.{parts}
use Rattle.aio_task.specs.Kept.{view_of}
use Rattle.law_cancel.proofs.Answering.{with_answer_spent}
use Rattle.aio_task.specs.View.{View}
use Rattle.aio_task.proofs.KeptSteps.{cancel_kept}
use Rattle.aio_task.proofs.Sizes.{sized, size_cancel}
use Rattle.aio_task.proofs.parts.Parts.cancel.Goals as goal

pub invariant_of-self : goal.invariant_of-self
invariant_of-self c =
    let old = c.self.invariant in
    let idle = ap (λ (v : View). v.called) c.self.view_is ∙ c.requires.idle in
    rw (c.cancel.ensures.stack, c.cancel.ensures.seen) (
      cancel_kept _ c.cancel.new.body c.args.target idle c.cancel.ensures.after c.cancel.ensures.queue old.0,
      sized _ _ _ _ _ _ _ (size_cancel c.args.target _) c.cancel.ensures.after c.cancel.ensures.unnoted old.1,
    )

pub returns-clause-spent : goal.returns-clause-spent
returns-clause-spent c =
    rw (← c.self.view_is)
    (c.cancel.ensures.answer
    ∙ with_answer_spent c.args.target []
    (parts (view_of c.self.inside.time c.self.inside.profile c.self.inside.body c.self.inside.timers c.self.inside.running c.self.inside.called)))
