use Rattle.std.proofs.Common.{◌+◌, slice_get, ◌∙◌, sym, ap, subst, arith}
use Rattle.model_loop.specs.Cancel.{cancel}
use Rattle.model_loop.specs.Futures.{is_pending_at}
use Rattle.aio_task.specs.View.{parts}
use Rattle.aio_core.proofs.Stopping.{HasCancelled, cancelled_all, cancelled_first, cancelled_idle, cancelled_more, cancelled_on, plus_one}
use Rattle.aio_core.proofs.turns.cancel_everything.Goals as goal
use Rattle.aio_core.proofs.turns.cancel_everything.Goals.{then-is_pending, else-is_pending}

pub tasks-task-end-requires : goal.tasks-task-end-requires
tasks-task-end-requires g c = c.requires

pub loop-task-init : goal.loop-task-init
loop-task-init g c = cancelled_first c.args.body.now

pub cancel-answer-requires : goal.cancel-answer-requires
cancel-answer-requires g c = record { idle = cancelled_idle c.args.body.now c.loop-task.body c.loop-task.task c.requires c.loop-task.invariant }

pub loop-task-preserved : goal.loop-task-preserved
loop-task-preserved g c =
    let l = c.loop-task in
    let first = c.args.body.now in
    let told = ap (λ id. is_pending_at (slice_get l.body.parts.futures id)) (sym c.future_of-own.ensures) ∙ sym c.is_pending.ensures in
    elim c.if-is_pending.branch [
      | then-is_pending w ↦
          subst (λ b. HasCancelled g.X.Extra.added first b (l.task + 1)) (sym w.body-is)
          (subst (HasCancelled g.X.Extra.added first (record l.body { parts = w.cancel-answer.new.self })) (plus_one l.task)
          (cancelled_more first l.body l.task w.cancel-answer.new.self l.invariant (told ∙ w.if-is_pending.true)
          (w.cancel-answer.ensures.after ∙ ap (λ id. (cancel id (parts l.body.parts)).parts) c.future_of-own.ensures)
          w.cancel-answer.ensures.queue w.cancel-answer.ensures.frame))
      | else-is_pending w ↦
          subst (λ b. HasCancelled g.X.Extra.added first b (l.task + 1)) (sym w.body-is)
          (subst (HasCancelled g.X.Extra.added first l.body) (plus_one l.task) (cancelled_on first l.body l.task l.invariant (told ∙ w.if-is_pending.false)))
    ]

pub returns : goal.returns
returns g c =
    let l = c.loop-task in
    let end = c.loop-task-test.false in
    let within = l.auto.task-end in
    let all = c.tasks-task-end.ensures in
    cancelled_all c.args.body.now l.body l.task (omega (arith, end, within, all)) l.invariant
