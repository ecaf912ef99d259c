use Rattle.std.proofs.Common.{◌≡◌, ap, subst, ◌∙◌}
use Rattle.model_loop.specs.Cancel.{cancel}
use Rattle.aio_task.specs.View.{parts}
use Rattle.aio_group.proofs.Asking.{AskedSoFar, none_asked, one_asked, all_asked}
use Rattle.aio_group.proofs.abort.cancel_each.Goals as goal

pub loop-task-init : goal.loop-task-init
loop-task-init c =
    let same : c.into_iter-task-iterator.result ≡ c.args.tasks.now.keys = cc in
    rw same (none_asked c.args.parts.now c.args.tasks.now.keys c.requires.idle)

pub cancel-heard-requires : goal.cancel-heard-requires
cancel-heard-requires c = record { idle = c.loop-task.invariant.idle }

pub loop-task-preserved : goal.loop-task-preserved
loop-task-preserved c =
    let v = c.args.parts.now in
    let w = c.loop-task.parts in
    let x = c.cancel-heard.new.self in
    let keys = c.args.tasks.now.keys in
    let so = subst (λ left. AskedSoFar v w keys left) c.in-Some.ensures.steps c.loop-task.invariant in
    one_asked v w x c.in-Some.task.now keys c.next.new.self so
    (c.cancel-heard.ensures.after ∙ ap (λ i. (cancel i (parts w)).parts) c.future_of-future.ensures)
    c.cancel-heard.ensures.queue c.cancel-heard.ensures.frame

pub returns-clause-moves : goal.returns-clause-moves
returns-clause-moves c = c.loop-task.invariant.moves

pub returns-clause-kept : goal.returns-clause-kept
returns-clause-kept c = λ t p by k.
    all_asked c.args.parts.now c.loop-task.parts c.args.tasks.now.keys c.loop-task.task-iterator c.loop-task.invariant
    c.in-None.ensures.steps.0 t p by k
