use Rattle.std.proofs.Common.{◌≡◌, ◌⊎◌, false, [], None, slice_get, ap, sym, subst, ◌∙◌}
use Rattle.model_loop.specs.Futures.{is_pending_at}
use Rattle.model_loop.specs.Totals.{callbacks_at}
use Rattle.model_loop.specs.Owning.{owner_at}
use Rattle.aio_task.specs.View.{View}
use Rattle.aio_task.specs.contracts.parts.Parts.{the_view, the_invariant}
use Rattle.aio_task.proofs.KeptFutures.{released_whole}
use Rattle.aio_task.proofs.parts.Parts.release.Goals as goal

pub invariant_of-self : goal.invariant_of-self
invariant_of-self c =
    let old = subst the_invariant (sym c.self-inside.view_is) c.self.invariant in
    let same = ap the_view c.self-inside.view_is ∙ c.self.view_is in
    let idle = ap (λ (v : View). v.called) same ∙ c.requires.idle in
    let free = subst (λ (v : View). owner_at (slice_get v.futures c.args.id) ≡ None) (sym same) c.requires.no_task in
    let over = subst (λ (v : View). (is_pending_at (slice_get v.futures c.args.id) ≡ false) ⊎ (callbacks_at (slice_get v.futures c.args.id) ≡ []))
    (sym same) c.requires.over in
    rw c.release.ensures
    (released_whole _ _ _ _ _ c.args.id idle free over c.forget.ensures old.0 old.1)
