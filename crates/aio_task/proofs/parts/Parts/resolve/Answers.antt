use Rattle.std.proofs.Common.{◌≡◌, None, slice_get, ap, sym, subst, ◌∙◌}
use Rattle.model_loop.specs.Owning.{owner_at}
use Rattle.aio_task.specs.View.{View}
use Rattle.aio_task.specs.contracts.parts.Parts.{the_view, the_invariant}
use Rattle.aio_task.proofs.KeptFutures.{resolved_whole}
use Rattle.aio_task.proofs.parts.Parts.resolve.Goals as goal

pub invariant_of-self : goal.invariant_of-self
invariant_of-self c =
    let old = subst the_invariant (sym c.self-inside.view_is) c.self.invariant in
    let same = ap the_view c.self-inside.view_is ∙ c.self.view_is in
    let idle = ap (λ (v : View). v.called) same ∙ c.requires.idle in
    let free = subst (λ (v : View). owner_at (slice_get v.futures c.args.id) ≡ None) (sym same) c.requires.no_task in
    rw (c.resolve.ensures.after, c.resolve.ensures.called)
    (resolved_whole _ _ _ _ c.args.id c.args.outcome idle free old.0 old.1)
