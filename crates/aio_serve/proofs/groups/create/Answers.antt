use Rattle.std.proofs.Common.{◌≡◌, ◌+◌, ◌^◌, ◌<◌, ◌≤◌, length, refl, Some, ap, subst, sym, ◌∙◌, arith}
use Rattle.std.proofs.lemmas.Result.{IfOk-weaker}
use Rattle.model_says.specs.Operations.{out_of_range}
use Rattle.model_says.specs.Requests.{bad_argument}
use Rattle.model_loop.specs.Tasks.{next_task}
use Rattle.model_machine.specs.Replies.{most_ids}
use Rattle.model_value.specs.Value.{Task}
use Rattle.aio_body.specs.Asked.{Says}
use Rattle.aio_body.specs.declared.reply.RequestReply.TheVariants.{Answers, Raises}
use Rattle.aio_body.proofs.May.{idle_some}
use Rattle.aio_serve.proofs.Grouping.{belong_some, create_refused, none_created, one_created}
use Rattle.aio_serve.proofs.Saying.{raises_so}
use Rattle.aio_serve.proofs.Creating.{creates_so, refuses_so}
use Rattle.aio_serve.proofs.GroupsOn.{groups_stand}
use Rattle.aio_serve.proofs.groups.create.Goals as goal

pub returns-in_default : goal.returns-in_default
returns-in_default g c task =
    let body = c.args.body.now in
    IfOk-weaker c.bad_argument.result _ _ (λ said e at s h.
    raises_so task at body s said _ bad_argument e
    (create_refused g.X.Extra.added.meaning task s c.args.group.now c.args.coroutine c.args.arguments.now (sym c.as_group.ensures ∙ c.in_default.is))
    h.going.in_step) c.bad_argument.ensures

pub returns-then-made-ge-MOST_IDS : goal.returns-then-made-ge-MOST_IDS
returns-then-made-ge-MOST_IDS g c task =
    let body = c.args.body.now in
    IfOk-weaker c.out_of_range.result _ _ (λ said e at s h.
    let same = body.slots.ok.0 in
    let made = h.going.in_step.stands.made in
    let many : most_ids ≤ next_task s.loop.parts = omega (arith, same, made, c.len-made.ensures, c.if-made-ge-MOST_IDS.true) in
    raises_so task at body s said _ out_of_range e
    (none_created g.X.Extra.added.meaning task s c.args.group.now c.in-Some.id c.args.coroutine c.args.arguments.now
    (sym c.as_group.ensures ∙ c.in-Some.is) many)
    h.going.in_step) c.out_of_range.ensures

pub create-requires-clause-idle : goal.create-requires-clause-idle
create-requires-clause-idle g c = idle_some c.args.body.now c.requires

pub create-requires-clause-belongs : goal.create-requires-clause-belongs
create-requires-clause-belongs g c = belong_some c.args.body.now c.requires

pub returns-in-Some-2 : goal.returns-in-Some-2
returns-in-Some-2 g c task at s h =
    let body = c.args.body.now in
    let id = c.in-Some.id in
    let coroutine = c.args.coroutine in
    let arguments = c.args.arguments.now in
    let mid = record body { parts = c.create.new.parts; groups = c.create.new.self } in
    let stands = h.going.in_step.stands in
    let came = c.in_ok-created.ensures.stands stands.name_map s.loop (groups_stand (Some task) at body s stands) in
    let same = body.slots.ok.0 in
    let made = stands.made in
    let few : next_task s.loop.parts < most_ids = omega (arith, same, made, c.len-made.ensures, c.if-made-ge-MOST_IDS.false) in
    subst (Says task at mid (Raises c.in-Some-2.fault))
    (sym (one_created g.X.Extra.added.meaning task s c.args.group.now id coroutine arguments (sym c.as_group.ensures ∙ c.in-Some.is) few))
    (refuses_so task id coroutine arguments at body mid s h.going c.create.ensures.moves refl came.0 c.in_ok-created.created c.in-Some-2.fault
    (Raises c.in-Some-2.fault) came.1 (sym c.in-Some-2.is ∙ c.in_ok-fault.ensures) refl)

pub returns : goal.returns
returns g c task at s h =
    let body = c.args.body.now in
    let id = c.in-Some.id in
    let coroutine = c.args.coroutine in
    let arguments = c.args.arguments.now in
    let mid = record body { parts = c.create.new.parts; groups = c.create.new.self } in
    let stands = h.going.in_step.stands in
    let came = c.in_ok-created.ensures.stands stands.name_map s.loop (groups_stand (Some task) at body s stands) in
    let same = body.slots.ok.0 in
    let made = stands.made in
    let few : next_task s.loop.parts < most_ids = omega (arith, same, made, c.len-made.ensures, c.if-made-ge-MOST_IDS.false) in
    let number : c.len-made.result ≡ next_task s.loop.parts = omega (arith, same, made, c.len-made.ensures) in
    let room : length body.slots.items + 1 < 2 ^ 32 = omega (arith, few, made) in
    subst (Says task at c.hold.new.self (Answers c.task.result))
    (sym (one_created g.X.Extra.added.meaning task s c.args.group.now id coroutine arguments (sym c.as_group.ensures ∙ c.in-Some.is) few))
    (creates_so task id coroutine arguments at body mid s h.going c.create.ensures.moves refl came.0 c.in_ok-created.created c.hold.new.self
    (Answers c.task.result) came.1 (sym c.in_default-2.is ∙ c.in_ok-fault.ensures)
    (ap Answers (c.task.ensures ∙ ap Task number)) c.in_ok-hold.ensures room)
