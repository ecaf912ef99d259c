use Rattle.std.proofs.Common.{Ok, rules, SFits, w64, sym, subst, ap, refl, ◌∙◌}
use Rattle.std.proofs.lemmas.Int.{to_z-of_z}
use Rattle.model_value.specs.declared.request.Request.TheVariants as request
use Rattle.model_value.specs.Value.{Int}
use Rattle.model_says.specs.Requests.{bad_argument}
use Rattle.model_loop.specs.Futures.{next_future}
use Rattle.model_stream.specs.Requests.{wait}
use Rattle.model_machine.specs.Replies.{awaits_exit_as}
use Rattle.law_cases.specs.TreeEnd.{owned_in as plain_in}
use Rattle.law_cases.specs.Trees.{ExitWaits, IsMade}
use Rattle.law_cases.proofs.Asking.{waits}
use Rattle.aio_body.specs.declared.reply.RequestReply.TheVariants as said
use Rattle.aio_body.specs.Asked.{Serves}
use Rattle.aio_body.proofs.Alone.{serves_raise}
use Rattle.refine_streams.proofs.Meaning.{wait_means, wait_refused}
use Rattle.refine_streams.proofs.Served.{asking_answers, asking_idle, asking_owned, asking_pending, asking_suspends, asking_running}
use Rattle.aio_streaming.proofs.children.wait_child.Goals as goal

pub returns-in_default : goal.returns-in_default
returns-in_default g c =
    serves_raise g.X.Extra.added c.args.task (request.WaitChild c.args.child.now) c.args.body.now bad_argument
    (λ at s h.
    wait_refused g.X.Extra.added.meaning c.args.task s c.args.child.now
    (sym (c.as_child.ensures s h.going.in_step.stands.transports) ∙ c.in_default.is))
    c.bad_argument.result c.bad_argument.ensures

pub wait-requires-clause-idle : goal.wait-requires-clause-idle
wait-requires-clause-idle g c = asking_idle c.args.task (request.WaitChild c.args.child.now) c.args.body.now c.requires

pub wait-requires-clause-own : goal.wait-requires-clause-own
wait-requires-clause-own g c = asking_owned c.args.task (request.WaitChild c.args.child.now) c.args.body.now c.requires

pub suspend-suspension-requires-clause-running : goal.suspend-suspension-requires-clause-running
suspend-suspension-requires-clause-running g c =
    asking_running c.args.task (request.WaitChild c.args.child.now) c.args.body.now c.requires
    (record c.args.body.now { parts = c.wait.new.parts; transports = c.wait.new.self }) refl refl (λ n. wait n c.in-Some.id) (awaits_exit_as c.args.task)
    (λ at s h.
    wait_means g.X.Extra.added.meaning c.args.task s c.args.child.now c.in-Some.id
    (sym (c.as_child.ensures s h.going.in_step.stands.transports) ∙ c.in-Some.is))
    ExitWaits c.in-Ok-Waits.field-0 c.in-Ok-Waits.ensures.told
    (λ s kept. waits (plain_in s) (next_future s.loop.parts) c.in-Some.id s.streams kept)
    c.in-Ok-Waits.on (λ first now made. subst (ExitWaits (IsMade first now)) c.in-Ok-Waits.field-0-is made)

pub suspend-suspension-requires-clause-pending : goal.suspend-suspension-requires-clause-pending
suspend-suspension-requires-clause-pending g c =
    asking_pending c.args.task (request.WaitChild c.args.child.now) c.args.body.now c.requires
    (record c.args.body.now { parts = c.wait.new.parts; transports = c.wait.new.self }) refl refl (λ n. wait n c.in-Some.id) (awaits_exit_as c.args.task)
    (λ at s h.
    wait_means g.X.Extra.added.meaning c.args.task s c.args.child.now c.in-Some.id
    (sym (c.as_child.ensures s h.going.in_step.stands.transports) ∙ c.in-Some.is))
    ExitWaits c.in-Ok-Waits.field-0 c.in-Ok-Waits.ensures.told
    (λ s kept. waits (plain_in s) (next_future s.loop.parts) c.in-Some.id s.streams kept)
    c.in-Ok-Waits.on (λ first now made. subst (ExitWaits (IsMade first now)) c.in-Ok-Waits.field-0-is made)

pub returns-in-Ok-Code : goal.returns-in-Ok-Code
returns-in-Ok-Code g c =
    let fits : SFits w64 c.in-Ok-Code.code = search rules in
    let new = record c.args.body.now { parts = c.wait.new.parts; transports = c.wait.new.self } in
    subst (λ v. Serves g.X.Extra.added c.args.task (request.WaitChild c.args.child.now) c.args.body.now new (Ok (said.Answers v)))
    (ap Int (sym (to_z-of_z w64 c.in-Ok-Code.code fits)) ∙ sym c.int.ensures)
    (asking_answers c.args.task (request.WaitChild c.args.child.now) c.args.body.now c.requires new refl refl (λ n. wait n c.in-Some.id)
    (awaits_exit_as c.args.task)
    (λ at s h.
    wait_means g.X.Extra.added.meaning c.args.task s c.args.child.now c.in-Some.id
    (sym (c.as_child.ensures s h.going.in_step.stands.transports) ∙ c.in-Some.is))
    ExitWaits c.in-Ok-Code.field-0 c.in-Ok-Code.ensures.told
    (λ s kept. waits (plain_in s) (next_future s.loop.parts) c.in-Some.id s.streams kept)
    (Int c.in-Ok-Code.code) (λ t. ap (λ w. awaits_exit_as c.args.task w t) c.in-Ok-Code.field-0-is))

pub returns-in-Ok-Waits : goal.returns-in-Ok-Waits
returns-in-Ok-Waits g c =
    let new = record c.args.body.now { parts = c.wait.new.parts; transports = c.wait.new.self } in
    asking_suspends c.args.task (request.WaitChild c.args.child.now) c.args.body.now c.requires new refl refl (λ n. wait n c.in-Some.id)
    (awaits_exit_as c.args.task)
    (λ at s h.
    wait_means g.X.Extra.added.meaning c.args.task s c.args.child.now c.in-Some.id
    (sym (c.as_child.ensures s h.going.in_step.stands.transports) ∙ c.in-Some.is))
    ExitWaits c.in-Ok-Waits.field-0 c.in-Ok-Waits.ensures.told
    (λ s kept. waits (plain_in s) (next_future s.loop.parts) c.in-Some.id s.streams kept)
    c.in-Ok-Waits.on (λ first now made. subst (ExitWaits (IsMade first now)) c.in-Ok-Waits.field-0-is made) c.suspend-suspension.new.self
    (record {
      after = c.suspend-suspension.ensures.after;
      queue = c.suspend-suspension.ensures.queue;
      frame = c.suspend-suspension.ensures.frame;
    })
    (λ t. ap (λ w. awaits_exit_as c.args.task w t) c.in-Ok-Waits.field-0-is)
