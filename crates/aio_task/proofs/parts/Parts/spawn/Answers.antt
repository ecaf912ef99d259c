use Rattle.std.proofs.Common.{ap, ◌∙◌}
use Rattle.aio_task.specs.View.{View}
use Rattle.aio_task.proofs.KeptSteps.{spawned_or_not}
use Rattle.aio_task.proofs.parts.Parts.spawn.Goals as goal

pub invariant_of-self-2 : goal.invariant_of-self-2
invariant_of-self-2 c =
    let old = c.self.invariant in
    let idle = ap (λ (v : View). v.called) c.self.view_is ∙ c.requires.idle in
    spawned_or_not _ c.add.new.body _ _ _ _ _ c.add.result idle c.add.ensures.after c.add.ensures.queue c.add.ensures.err
    c.in_ok-announce.ensures.after c.in_ok-announce-2.ensures.after old.1 old.0
