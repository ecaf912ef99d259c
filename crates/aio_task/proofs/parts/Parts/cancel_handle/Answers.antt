use Rattle.std.proofs.Common.{refl, ap, sym, subst, ◌∙◌}
use Rattle.aio_task.specs.View.{NamesNoStep}
use Rattle.aio_task.specs.View.{View}
use Rattle.aio_task.specs.contracts.parts.Parts.{the_view, the_invariant}
use Rattle.aio_task.proofs.Keeping.{cancel_handle_kept, room_same}
use Rattle.aio_task.proofs.parts.Parts.cancel_handle.Goals as goal

pub invariant_of-self : goal.invariant_of-self
invariant_of-self c =
    let old = subst the_invariant (sym c.self-inside.view_is) c.self.invariant in
    let same = ap the_view c.self-inside.view_is ∙ c.self.view_is in
    let idle = ap (λ (v : View). v.called) same ∙ c.requires.idle in
    let none = subst (λ (v : View). NamesNoStep c.args.handle.name v.queue) (sym same) c.requires.no_step in
    rw c.cancel.ensures
    (cancel_handle_kept _ c.args.handle.name idle none old.0, room_same _ _ _ _ _ refl refl old.1)
