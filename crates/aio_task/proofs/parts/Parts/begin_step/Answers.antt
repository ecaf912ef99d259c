use Rattle.std.proofs.Common.{ap, ◌∙◌}
use Rattle.aio_task.specs.View.{View}
use Rattle.aio_task.proofs.KeptSteps.{begin_kept}
use Rattle.aio_task.proofs.Sizes.{sized, size_begin}
use Rattle.aio_task.proofs.parts.Parts.begin_step.Goals as goal

pub invariant_of-self : goal.invariant_of-self
invariant_of-self c =
    let old = c.self.invariant in
    let called = ap (λ (v : View). v.called) c.self.view_is ∙ c.requires.called in
    let alone = ap (λ (v : View). v.running) c.self.view_is ∙ c.requires.alone in (
      begin_kept _ c.begin-must_cancel.new.body c.args.task c.args.input called alone c.begin-must_cancel.ensures.after c.begin-must_cancel.ensures.queue old.0,
      sized _ _ _ _ _ _ _ (size_begin c.args.task c.args.input _) c.begin-must_cancel.ensures.after old.1.unnoted old.1,
    )
