use Rattle.std.proofs.Common.{ap, sym, subst, ◌∙◌}
use Rattle.aio_task.specs.View.{View}
use Rattle.aio_task.specs.contracts.parts.Parts.{the_view, the_invariant}
use Rattle.aio_task.proofs.KeptFutures.{on_done_whole}
use Rattle.aio_task.proofs.parts.Parts.on_done.Goals as goal

pub invariant_of-self : goal.invariant_of-self
invariant_of-self c =
    let old = subst the_invariant (sym c.self-inside.view_is) c.self.invariant in
    let same = ap the_view c.self-inside.view_is ∙ c.self.view_is in
    let idle = ap (λ (v : View). v.called) same ∙ c.requires.idle in
    rw (c.on_done.ensures.after, c.on_done.ensures.called)
    (on_done_whole _ _ _ _ c.args.id c.args.action idle c.requires.no_step old.0 old.1)
