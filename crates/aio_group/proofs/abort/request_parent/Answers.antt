use Rattle.std.proofs.Common.{◌≡◌, true, ap, sym, subst, ◌∙◌}
use Rattle.model_loop.specs.Cancel.{cancel}
use Rattle.model_loop.specs.Groups.{request_parent}
use Rattle.model_loop.specs.Tasks.{future_of}
use Rattle.aio_task.specs.View.{parts}
use Rattle.aio_group.specs.Held.{Held}
use Rattle.aio_group.specs.Stands.{GroupSteps}
use Rattle.aio_group.proofs.Asking.{moves_by}
use Rattle.aio_group.proofs.Going.{cancel_on}
use Rattle.aio_group.proofs.Stepping.{request_parent_steps}
use Rattle.aio_group.proofs.abort.request_parent.Goals as goal

pub returns-clause-moves : goal.returns-clause-moves
returns-clause-moves c =
    let v = c.args.parts.now in
    let id = c.future_of-future.result in
    moves_by v c.cancel-heard.new.self (cancel id (parts v)).parts c.cancel-heard.ensures.after (cancel_on id (parts v))
    c.cancel-heard.ensures.frame

pub returns-clause-steps : goal.returns-clause-steps
returns-clause-steps c =
    let a = c.args.group.now in
    let v = c.args.parts.now in
    let w = c.cancel-heard.new.self in
    let same : c.set_requested.new.self ≡ record a { requested = true } = c.set_requested.ensures in
    let id_is : c.future_of-future.result ≡ future_of (parts v) a.parent =
    c.future_of-future.ensures ∙ ap (future_of (parts v)) (c.parent.ensures ∙ ap (λ (h : Held). h.parent) same) in
    subst (λ h. GroupSteps a v h w request_parent) (sym same)
    (request_parent_steps a v w (c.cancel-heard.ensures.after ∙ ap (λ i. (cancel i (parts v)).parts) id_is)
    c.cancel-heard.ensures.queue c.cancel-heard.ensures.frame)
