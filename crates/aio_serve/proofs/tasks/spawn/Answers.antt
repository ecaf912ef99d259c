use Rattle.std.proofs.Common.{◌≡◌, ◌+◌, ◌^◌, ◌<◌, ◌≤◌, length, ap, ◌∙◌, arith}
use Rattle.std.proofs.lemmas.Result.{IfOk-weaker}
use Rattle.model_value.specs.Value.{Task}
use Rattle.model_says.specs.Operations.{out_of_range}
use Rattle.model_loop.specs.Tasks.{next_task, spawn}
use Rattle.model_machine.specs.Replies.{most_ids}
use Rattle.model_machine.specs.State.{unbooked_in, with_coroutine}
use Rattle.aio_body.specs.declared.run_state.RunState.{RunState}
use Rattle.aio_body.specs.declared.reply.RequestReply.TheVariants.{Answers}
use Rattle.aio_body.proofs.May.{idle_some}
use Rattle.aio_serve.proofs.Suspending.{none_spawned, one_spawned}
use Rattle.aio_serve.proofs.Saying.{answers_so, raises_so}
use Rattle.aio_serve.proofs.Spawning.{spawns_so}
use Rattle.aio_serve.proofs.tasks.spawn.Goals as goal

pub returns-then-len-ge-MOST_IDS : goal.returns-then-len-ge-MOST_IDS
returns-then-len-ge-MOST_IDS g c task =
    let body = c.args.body.now in
    IfOk-weaker c.out_of_range.result _ _ (λ said e at s h.
    let same = body.slots.ok.0 in
    let made = h.going.in_step.stands.made in
    let many : most_ids ≤ next_task s.loop.parts = omega (arith, same, made, c.len.ensures, c.if-len-ge-MOST_IDS.true) in
    raises_so task at body s said _ out_of_range e (none_spawned g.X.Extra.added.meaning task s c.args.coroutine c.args.arguments.now many) h.going.in_step)
    c.out_of_range.ensures

pub spawn-requires : goal.spawn-requires
spawn-requires g c = record { idle = ap (λ (b : RunState _). b.parts.called) c.in_ok-hold.ensures.frame ∙ idle_some c.args.body.now c.requires }

pub returns : goal.returns
returns g c task at s h =
    let body = c.args.body.now in
    let held = c.hold.new.self in
    let v = c.spawn.new.self in
    let coroutine = c.args.coroutine in
    let arguments = c.args.arguments.now in
    let p = s.loop.parts in
    let stands = h.going.in_step.stands in
    let same = body.slots.ok.0 in
    let made = stands.made in
    let few : length body.slots.items + 1 < 2 ^ 32 = omega (arith, same, c.len.ensures, c.if-len-ge-MOST_IDS.false) in
    let number : c.in_ok-task.task ≡ next_task p =
    c.in_ok-task.ensures.number ∙ ap (λ (b : RunState _). length b.parts.tasks) c.in_ok-hold.ensures.frame ∙ ap length stands.keeps.tasks in
    answers_so task at (record held { parts = v }) (with_coroutine coroutine arguments (unbooked_in spawn s)) _ _ (Task (next_task p))
    (ap Answers (c.task.ensures ∙ ap Task number)) (one_spawned g.X.Extra.added.meaning task s coroutine arguments (omega (arith, few, made)))
    (spawns_so task coroutine arguments at body held s v h.going c.in_ok-hold.ensures few c.in_ok-task.ensures.after c.in_ok-task.ensures.queue
    c.in_ok-task.ensures.frame)
