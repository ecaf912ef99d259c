use Rattle.std.proofs.Common.{false, refl, ap, sym, subst, ◌∙◌}
use Rattle.model_loop.specs.Parts as plain
use Rattle.aio_task.specs.View.{View}
use Rattle.aio_task.specs.contracts.parts.Parts.{the_view, the_invariant}
use Rattle.aio_task.proofs.KeptFutures.{made_or_not}
use Rattle.aio_task.proofs.Sizes.{noted_less, more_room}
use Rattle.aio_task.proofs.parts.Parts.new_many.Goals as goal

pub invariant_of-self-2 : goal.invariant_of-self-2
invariant_of-self-2 c =
    let old = subst the_invariant (sym c.self-inside.view_is) c.self.invariant in
    let same = ap the_view c.self-inside.view_is ∙ c.self.view_is in
    let idle = ap (λ (v : View). v.called) same ∙ c.requires.idle in
    let has = more_room _ _ _ _ _ _ c.in_ok-announce.ensures.after
    (noted_less _ _ c.in_ok-announce-2.ensures.after old.1.unnoted) old.1 in
    made_or_not _ (plain.Many c.args.members.items false) _ _ _ c.new_many.result c.new_many.new.self idle refl
    c.new_many.ensures.after c.new_many.ensures.err has.1 has.0 old.0
