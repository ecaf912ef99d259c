use Rattle.std.proofs.Common.{slice_get, ◌∙◌, sym, ap, subst, arith}
use Rattle.model_loop.specs.Futures.{is_pending_at}
use Rattle.aio_core.proofs.Stopping.{NoneLives, none_lives, none_more, some_lives}
use Rattle.aio_core.proofs.turns.any_lives.Goals as goal

pub tasks-task-end-requires : goal.tasks-task-end-requires
tasks-task-end-requires g c = c.requires

pub loop-task-init : goal.loop-task-init
loop-task-init g c = λ task below. absurd (omega (arith, below))

pub returns-then-is_pending : goal.returns-then-is_pending
returns-then-is_pending g c =
    let body = c.args.body.now in
    let within = c.loop-task-test.true in
    let all = c.tasks-task-end.ensures in
    some_lives body c.loop-task.task (omega (arith, within, all))
    (ap (λ id. is_pending_at (slice_get body.parts.futures id)) (sym c.future_of.ensures) ∙ sym c.is_pending.ensures ∙ c.if-is_pending.true)

pub loop-task-preserved : goal.loop-task-preserved
loop-task-preserved g c =
    let body = c.args.body.now in
    none_more body c.loop-task.task c.loop-task.invariant
    (ap (λ id. is_pending_at (slice_get body.parts.futures id)) (sym c.future_of.ensures) ∙ sym c.is_pending.ensures ∙ c.if-is_pending.false)

pub returns : goal.returns
returns g c =
    let l = c.loop-task in
    let end = c.loop-task-test.false in
    let within = l.auto.task-end in
    let all = c.tasks-task-end.ensures in
    none_lives c.args.body.now (subst (NoneLives c.args.body.now) (omega (arith, end, within, all)) l.invariant)
