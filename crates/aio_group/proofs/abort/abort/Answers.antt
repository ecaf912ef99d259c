use Rattle.std.proofs.Common.{◌≡◌, true, ap, sym, subst, ◌∙◌}
use Rattle.model_loop.specs.Groups.{abort}
use Rattle.model_loop.specs.Ledger.{request_each}
use Rattle.aio_task.specs.Keeps.{Kept}
use Rattle.aio_group.specs.Held.{Held}
use Rattle.aio_group.specs.Stands.{GroupSteps}
use Rattle.aio_group.proofs.Stepping.{abort_steps}
use Rattle.aio_group.proofs.abort.abort.Goals as goal

pub returns-clause-steps : goal.returns-clause-steps
returns-clause-steps c =
    let a = c.args.group.now in
    let v = c.args.parts.now in
    let w = c.cancel_each.new.parts in
    let same : c.set_aborting.new.self ≡ record a { aborting = true } = c.set_aborting.ensures in
    let children : c.children.result.now.keys ≡ a.children = c.children.ensures ∙ ap (λ (h : Held). h.children) same in
    subst (λ h. GroupSteps a v h w abort) (sym same)
    (abort_steps a v w (λ t p by k. subst (λ ts. Kept t p w (request_each by ts p).parts) children (c.cancel_each.ensures.kept t p by k)))
