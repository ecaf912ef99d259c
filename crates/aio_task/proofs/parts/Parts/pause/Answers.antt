use Rattle.std.proofs.Common.{refl, ap, ◌∙◌}
use Rattle.aio_task.specs.View.{View}
use Rattle.aio_task.proofs.Keeping.{room_same}
use Rattle.aio_task.proofs.KeptSteps.{pause_kept}
use Rattle.aio_task.proofs.parts.Parts.pause.Goals as goal

pub invariant_of-self-2 : goal.invariant_of-self-2
invariant_of-self-2 c =
    let old = c.self.invariant in
    let idle = ap (λ (v : View). v.called) c.self.view_is ∙ c.requires.idle in
    let runs = ap (λ (v : View). v.running) c.self.view_is ∙ c.requires.running in
    rw (c.call_soon.ensures.whole, c.take.ensures.after)
    (pause_kept _ c.args.task idle runs old.0, room_same _ _ _ _ _ refl refl old.1)

pub returns-clause-after : goal.returns-clause-after
returns-clause-after c = rw (← c.self.view_is) c.call_soon.ensures.after
