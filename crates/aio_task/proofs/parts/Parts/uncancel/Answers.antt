use Rattle.std.proofs.Common.{[], ap, ◌∙◌}
use Rattle.aio_task.specs.View.{View}
use Rattle.aio_task.proofs.KeptSteps.{uncancel_kept}
use Rattle.aio_task.proofs.Sizes.{sized, size_change}
use Rattle.aio_task.proofs.parts.Parts.uncancel.Goals as goal

pub invariant_of-self : goal.invariant_of-self
invariant_of-self c =
    let old = c.self.invariant in
    let idle = ap (λ (v : View). v.called) c.self.view_is ∙ c.requires.idle in (
      uncancel_kept _ _ c.uncancel.new.body c.args.task idle c.uncancel.ensures.after ([], c.uncancel.ensures.queue) old.0,
      sized _ _ _ _ _ _ _ (size_change c.args.task _ _) c.uncancel.ensures.after old.1.unnoted old.1,
    )
