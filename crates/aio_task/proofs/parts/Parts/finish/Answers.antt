use Rattle.std.proofs.Common.{ap, ◌∙◌}
use Rattle.aio_task.specs.View.{View}
use Rattle.aio_task.proofs.KeptFutures.{owns_of}
use Rattle.aio_task.proofs.KeptSteps.{finish_kept}
use Rattle.aio_task.proofs.Plainly.{kept_runs}
use Rattle.aio_task.proofs.Sizes.{finished}
use Rattle.aio_task.proofs.parts.Parts.finish.Goals as goal

pub invariant_of-self : goal.invariant_of-self
invariant_of-self c =
    let old = c.self.invariant in
    let idle = ap (λ (v : View). v.called) c.self.view_is ∙ c.requires.idle in
    let runs = ap (λ (v : View). v.running) c.self.view_is ∙ c.requires.running in (
      finish_kept _ c.finish.new.body c.args.task c.args.end idle runs c.finish.ensures.after c.finish.ensures.queue old.0,
      finished _ _ c.args.task c.args.end _ _ _ _ (owns_of _ idle old.0) (kept_runs _ old.0 c.args.task idle runs)
          c.finish.ensures.after c.retire.ensures old.1,
    )
