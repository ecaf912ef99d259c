use Rattle.std.proofs.Common.{◌≡◌, ◌++◌, ◌∷◌, [], ap, sym, subst, ◌∙◌}
use Rattle.model_loop.specs.Groups.{make_group}
use Rattle.aio_group.specs.Held.{new_held}
use Rattle.aio_group.specs.Stands.{AllBelong, GroupsStand}
use Rattle.aio_group.proofs.Belonging.{all_belong_push}
use Rattle.aio_group.proofs.Numbering.{make_stands}
use Rattle.aio_group.proofs.groups.Groups.make.Goals as goal

pub returns-clause-belongs : goal.returns-clause-belongs
returns-clause-belongs c =
    let e : c.push.new.self.items ≡ c.args.self.now ++ new_held c.args.parent ∷ [] =
    c.in_ok-push.ensures.items ∙ ap (λ gs. gs ++ c.new.result ∷ []) c.self.view_is ∙ ap (λ h. c.args.self.now ++ h ∷ []) c.new.ensures in
    λ v all. subst (λ gs. AllBelong v gs) (sym e) (all_belong_push v c.args.self.now c.args.parent all)

pub returns-clause-stands : goal.returns-clause-stands
returns-clause-stands c =
    let e : c.push.new.self.items ≡ c.args.self.now ++ new_held c.args.parent ∷ [] =
    c.in_ok-push.ensures.items ∙ ap (λ gs. gs ++ c.new.result ∷ []) c.self.view_is ∙ ap (λ h. c.args.self.now ++ h ∷ []) c.new.ensures in
    λ t v l s. subst (λ gs. GroupsStand t gs v (make_group c.args.parent l)) (sym e) (make_stands t c.args.self.now v l c.args.parent s)
