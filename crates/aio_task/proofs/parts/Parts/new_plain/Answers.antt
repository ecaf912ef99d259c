use Rattle.std.proofs.Common.{refl, ap, sym, subst, ◌∙◌, arith}
use Rattle.model_loop.specs.Parts as plain
use Rattle.aio_task.specs.View.{View}
use Rattle.aio_task.specs.contracts.parts.Parts.{the_view, the_invariant}
use Rattle.aio_task.proofs.KeptFutures.{made_or_not}
use Rattle.aio_task.proofs.parts.Parts.new_plain.Goals as goal

pub invariant_of-self : goal.invariant_of-self
invariant_of-self c =
    let old = subst the_invariant (sym c.self-inside.view_is) c.self.invariant in
    let same = ap the_view c.self-inside.view_is ∙ c.self.view_is in
    let idle = ap (λ (v : View). v.called) same ∙ c.requires.idle in
    made_or_not _ plain.Plain _ _ _ c.new_plain.result c.new_plain.new.self idle refl
    c.new_plain.ensures.after c.new_plain.ensures.err (let a = old.1.fits in omega (arith, a)) old.1 old.0
