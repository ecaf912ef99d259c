use Rattle.std.proofs.Common.{Ok, refl, sym, subst}
use Rattle.model_machine.specs.Replies.{drains}
use Rattle.aio_body.specs.declared.reply.RequestReply.TheVariants as said
use Rattle.aio_streaming.specs.Going.{RepliesOn}
use Rattle.aio_streaming.proofs.Writes.{drain_goes, drain_pending, drain_raises, drain_running, drain_waits, drain_yields}
use Rattle.aio_streaming.proofs.Writes.{going_idle, going_owned, going_slot}
use Rattle.aio_streaming.proofs.writing.drains.Goals as goal

pub drain-requires-clause-idle : goal.drain-requires-clause-idle
drain-requires-clause-idle g c = going_idle c.args.task c.args.body.now c.requires

pub drain-requires-clause-own : goal.drain-requires-clause-own
drain-requires-clause-own g c = going_owned c.args.task c.args.body.now c.requires

pub pause-requires-clause-running : goal.pause-requires-clause-running
pause-requires-clause-running g c =
    let new = record c.args.body.now { parts = c.drain.new.parts; transports = c.drain.new.self } in
    drain_running c.args.task c.args.body.now c.requires new refl refl
    c.args.yielded c.args.whom c.in-Ok-Yields.field-0 c.in-Ok-Yields.ensures.told

pub stand-requires : goal.stand-requires
stand-requires g c = going_slot c.args.task c.args.body.now c.requires

pub suspend-suspension-requires-clause-running : goal.suspend-suspension-requires-clause-running
suspend-suspension-requires-clause-running g c =
    let new = record c.args.body.now { parts = c.drain.new.parts; transports = c.drain.new.self } in
    drain_running c.args.task c.args.body.now c.requires new refl refl
    c.args.yielded c.args.whom c.in-Ok-Waits.field-0 c.in-Ok-Waits.ensures.told

pub suspend-suspension-requires-clause-pending : goal.suspend-suspension-requires-clause-pending
suspend-suspension-requires-clause-pending g c =
    let new = record c.args.body.now { parts = c.drain.new.parts; transports = c.drain.new.self } in
    drain_pending c.args.task c.args.body.now c.requires new refl refl
    c.args.yielded c.args.whom c.in-Ok-Waits.field-0 c.in-Ok-Waits.ensures.told c.in-Ok-Waits.on c.in-Ok-Waits.field-0-is

pub returns-in-Ok-Goes : goal.returns-in-Ok-Goes
returns-in-Ok-Goes g c =
    let new = record c.args.body.now { parts = c.drain.new.parts; transports = c.drain.new.self } in
    subst (λ v. RepliesOn g.X.Extra.added c.args.task (drains c.args.yielded c.args.task c.args.whom) c.args.body.now new
    (Ok (said.Answers v)))
    (sym c.nothing.ensures)
    (drain_goes c.args.task c.args.body.now c.requires new refl refl c.args.yielded c.args.whom c.in-Ok-Goes.field-0
    c.in-Ok-Goes.ensures.told
    c.in-Ok-Goes.field-0-is)

pub returns-in-Ok-Yields : goal.returns-in-Ok-Yields
returns-in-Ok-Yields g c =
    let new = record c.args.body.now { parts = c.drain.new.parts; transports = c.drain.new.self } in
    drain_yields c.args.task c.args.body.now c.requires new refl refl
    c.args.yielded c.args.whom c.in-Ok-Yields.field-0 c.in-Ok-Yields.ensures.told c.in-Ok-Yields.field-0-is c.stand.new.self
    c.pause.new.self
    c.pause.ensures.after c.pause.ensures.frame c.stand.ensures.frame c.stand.ensures.slots

pub returns-in-Ok-Waits : goal.returns-in-Ok-Waits
returns-in-Ok-Waits g c =
    let new = record c.args.body.now { parts = c.drain.new.parts; transports = c.drain.new.self } in
    drain_waits c.args.task c.args.body.now c.requires new refl refl
    c.args.yielded c.args.whom c.in-Ok-Waits.field-0 c.in-Ok-Waits.ensures.told c.in-Ok-Waits.on c.in-Ok-Waits.field-0-is
    c.suspend-suspension.new.self
    (record {
      after = c.suspend-suspension.ensures.after;
      queue = c.suspend-suspension.ensures.queue;
      frame = c.suspend-suspension.ensures.frame;
    })

pub returns-in-Ok-Raises : goal.returns-in-Ok-Raises
returns-in-Ok-Raises g c =
    let new = record c.args.body.now { parts = c.drain.new.parts; transports = c.drain.new.self } in
    drain_raises c.args.task c.args.body.now c.requires new refl refl
    c.args.yielded c.args.whom c.in-Ok-Raises.field-0 c.in-Ok-Raises.ensures.told c.in-Ok-Raises.fault c.in-Ok-Raises.field-0-is
