use Rattle.std.proofs.Common.{refl, ap, sym, subst, ◌∙◌}
use Rattle.aio_task.specs.View.{View, stepped_at}
use Rattle.aio_task.specs.contracts.parts.Parts.{the_view, the_invariant}
use Rattle.aio_task.proofs.Keeping.{room_same}
use Rattle.aio_task.proofs.KeptSteps.{next_kept}
use Rattle.aio_task.proofs.parts.Parts.next_below.Goals as goal

pub invariant_of-self : goal.invariant_of-self
invariant_of-self c =
    let old = subst the_invariant (sym c.self-inside.view_is) c.self.invariant in
    let same = ap the_view c.self-inside.view_is ∙ c.self.view_is in
    let idle = ap (λ (v : View). v.called) same ∙ c.requires.idle in
    rw c.in_err-next.ensures.after
    (next_kept _ _ (idle ∙ ap stepped_at c.in_err-next.ensures.action) idle old.0, room_same _ _ _ _ _ refl refl old.1)

pub invariant_of-self-2 : goal.invariant_of-self-2
invariant_of-self-2 c =
    let old = subst the_invariant (sym c.self-inside.view_is) c.self.invariant in
    let same = ap the_view c.self-inside.view_is ∙ c.self.view_is in
    let idle = ap (λ (v : View). v.called) same ∙ c.requires.idle in
    rw c.in_ok-next.ensures.after (
      next_kept _ _ (c.stepped-self-inside-inside.ensures ∙ ap stepped_at c.in_ok-next.ensures.action) idle old.0,
      room_same _ _ _ _ _ refl refl old.1,
    )
