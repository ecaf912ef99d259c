use Rattle.std.proofs.Common.{ap, sym, ◌∙◌}
use Rattle.std.proofs.lemmas.Bool.{true≢false}
use Rattle.model_value.specs.Value.{Task}
use Rattle.model_machine.specs.Replies.{reply}
use Rattle.aio_body.specs.declared.reply.RequestReply.TheVariants.{Answers}
use Rattle.aio_serve.proofs.Meaning.{current_means}
use Rattle.aio_serve.proofs.Owning.{isnt_lent}
use Rattle.aio_serve.proofs.Saying.{answers_so}
use Rattle.aio_serve.proofs.Serving.{asks, goes, some_goes}
use Rattle.aio_serve.proofs.table.serve_lent.Goals as goal

pub pause-requires : goal.pause-requires
pause-requires g c = goes c.requires.asked

pub returns-in-Pause : goal.returns-in-Pause
unfolding reply
returns-in-Pause g c = rw c.in-Pause.is (λ at s h. c.pause.ensures at s h.going)

pub await_value-requires : goal.await_value-requires
await_value-requires g c = asks c.in-Await.is c.requires.asked

pub returns-in-Await : goal.returns-in-Await
returns-in-Await g c = rw c.in-Await.is c.await_value.ensures

pub returns-in-Print : goal.returns-in-Print
returns-in-Print g c = rw c.in-Print.is c.print.ensures

pub make_future-requires : goal.make_future-requires
make_future-requires g c = some_goes c.requires.asked

pub returns-in-MakeFuture : goal.returns-in-MakeFuture
returns-in-MakeFuture g c = rw c.in-MakeFuture.is (c.make_future.ensures c.args.task)

pub fail-requires : goal.fail-requires
fail-requires g c = some_goes c.requires.asked

pub returns-in-Fail : goal.returns-in-Fail
returns-in-Fail g c = rw c.in-Fail.is (c.fail.ensures c.args.task)

pub returns-in-IsDone : goal.returns-in-IsDone
returns-in-IsDone g c = rw c.in-IsDone.is (c.is_done.ensures c.args.task)

pub returns-in-IsCancelled : goal.returns-in-IsCancelled
returns-in-IsCancelled g c = rw c.in-IsCancelled.is (c.is_cancelled.ensures c.args.task)

pub returns-in-ResultOf : goal.returns-in-ResultOf
returns-in-ResultOf g c = rw c.in-ResultOf.is (c.result_of.ensures c.args.task)

pub cancel-requires : goal.cancel-requires
cancel-requires g c = some_goes c.requires.asked

pub returns-in-Cancel : goal.returns-in-Cancel
returns-in-Cancel g c = rw c.in-Cancel.is (c.cancel.ensures c.args.task)

pub cancelling-requires : goal.cancelling-requires
cancelling-requires g c = some_goes c.requires.asked

pub returns-in-Cancelling : goal.returns-in-Cancelling
returns-in-Cancelling g c = rw c.in-Cancelling.is (c.cancelling.ensures c.args.task)

pub uncancel-requires : goal.uncancel-requires
uncancel-requires g c = some_goes c.requires.asked

pub returns-in-Uncancel : goal.returns-in-Uncancel
returns-in-Uncancel g c = rw c.in-Uncancel.is (c.uncancel.ensures c.args.task)

pub time_now-requires : goal.time_now-requires
time_now-requires g c = some_goes c.requires.asked

pub returns-in-Time : goal.returns-in-Time
returns-in-Time g c = rw c.in-Time.is (c.time_now.ensures c.args.task)

pub spawn-requires : goal.spawn-requires
spawn-requires g c = some_goes c.requires.asked

pub returns-in-Spawn : goal.returns-in-Spawn
returns-in-Spawn g c = rw c.in-Spawn.is (c.spawn.ensures c.args.task)

pub sleep-requires : goal.sleep-requires
sleep-requires g c = goes c.requires.asked

pub returns-in-Sleep : goal.returns-in-Sleep
returns-in-Sleep g c = rw c.in-Sleep.is c.sleep.ensures

pub enter_timeout-requires : goal.enter_timeout-requires
enter_timeout-requires g c = goes c.requires.asked

pub returns-in-TimeoutEnter : goal.returns-in-TimeoutEnter
returns-in-TimeoutEnter g c = rw c.in-TimeoutEnter.is c.enter_timeout.ensures

pub reschedule-requires : goal.reschedule-requires
reschedule-requires g c = some_goes c.requires.asked

pub returns-in-Reschedule : goal.returns-in-Reschedule
returns-in-Reschedule g c = rw c.in-Reschedule.is (c.reschedule.ensures c.args.task)

pub returns-in-Expired : goal.returns-in-Expired
returns-in-Expired g c = rw c.in-Expired.is (c.expired.ensures c.args.task)

pub enter_group-requires : goal.enter_group-requires
enter_group-requires g c = goes c.requires.asked

pub returns-in-GroupEnter : goal.returns-in-GroupEnter
returns-in-GroupEnter g c = rw c.in-GroupEnter.is c.enter_group.ensures

pub create-requires : goal.create-requires
create-requires g c = some_goes c.requires.asked

pub returns-in-Create : goal.returns-in-Create
returns-in-Create g c = rw c.in-Create.is (c.create.ensures c.args.task)

pub returns-in-Current : goal.returns-in-Current
returns-in-Current g c at s h =
    answers_so c.args.task at c.args.body.now s _ _ (Task c.args.task) (ap Answers c.task.ensures)
    (ap (λ r. reply g.X.Extra.added.meaning c.args.task r s) c.in-Current.is ∙ current_means g.X.Extra.added.meaning c.args.task s) h.going.in_step

-- ---- the others never come here
pub unreachable-requires : goal.unreachable-requires
unreachable-requires g c =
    true≢false (sym c.requires.lent ∙ isnt_lent c.args.request.now
    c.in_default.not-Pause c.in_default.not-Await c.in_default.not-Print c.in_default.not-MakeFuture
    c.in_default.not-Fail c.in_default.not-IsDone c.in_default.not-IsCancelled c.in_default.not-ResultOf
    c.in_default.not-Cancel c.in_default.not-Cancelling c.in_default.not-Uncancel c.in_default.not-Current
    c.in_default.not-Time c.in_default.not-Spawn c.in_default.not-Sleep c.in_default.not-TimeoutEnter
    c.in_default.not-Reschedule c.in_default.not-Expired c.in_default.not-GroupEnter c.in_default.not-Create)
