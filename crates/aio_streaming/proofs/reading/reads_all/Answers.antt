use Rattle.std.proofs.Common.{◌≡◌, ◌++◌, List, ℕ, Ok, ap, sym, subst, ◌∙◌}
use Rattle.model_value.specs.Value.{Bytes}
use Rattle.model_stream.specs.declared.answers.StreamGot.TheVariants as got
use Rattle.model_machine.specs.Replies.{reads_all}
use Rattle.aio_body.specs.declared.reply.RequestReply.TheVariants as said
use Rattle.aio_body.specs.Slots.{resume_point_at}
use Rattle.aio_body.specs.declared.resume_point.ResumePoint.TheVariants.{ReadingAll}
use Rattle.aio_receiver.specs.Gotten.{all_got}
use Rattle.aio_transports.specs.Readers.{reader_as}
use Rattle.aio_streaming.specs.Going.{RepliesOn}
use Rattle.aio_streaming.proofs.Looks.{all_answers, all_pending, all_raises, all_suspends, all_running, answers_on, on_idle, on_owned, on_within}
use Rattle.aio_streaming.proofs.reading.reads_all.Goals as goal

pub read_all-requires-clause-idle : goal.read_all-requires-clause-idle
read_all-requires-clause-idle g c = on_idle c.args.task c.args.body.now c.requires

pub read_all-requires-clause-own : goal.read_all-requires-clause-own
read_all-requires-clause-own g c = on_owned c.args.task c.args.body.now c.requires

pub suspend-suspension-requires-clause-running : goal.suspend-suspension-requires-clause-running
suspend-suspension-requires-clause-running g c =
    let is : c.in-Ok.field-0.got ≡ got.Waits c.in-Waits.on = cc (c.in-Waits.is) in
    all_running c.args.task c.args.body.now c.requires c.args.from c.read_all.new.parts c.read_all.new.self c.args.taken
    (all_got c.in-Ok.field-0) c.in-Ok.ensures.told
    c.in-Waits.on is

pub suspend-suspension-requires-clause-pending : goal.suspend-suspension-requires-clause-pending
suspend-suspension-requires-clause-pending g c =
    let is : c.in-Ok.field-0.got ≡ got.Waits c.in-Waits.on = cc (c.in-Waits.is) in
    all_pending c.args.task c.args.body.now c.requires c.args.from c.read_all.new.parts c.read_all.new.self c.args.taken
    (all_got c.in-Ok.field-0) c.in-Ok.ensures.told
    c.in-Waits.on is

pub stand_far-requires : goal.stand_far-requires
stand_far-requires g c = on_within c.args.task c.args.body.now c.requires

pub returns-in-Ok-joined : goal.returns-in-Ok-joined
returns-in-Ok-joined g c =
    let is : c.in-Ok.field-0.got ≡ got.Bytes c.in-Bytes.rest = cc (c.in-Bytes.is) in
    let all : c.in-Ok-joined.all ≡ c.args.taken ++ c.in-Ok.field-0.taken = cc (c.in-Ok-joined.ensures) in
    let new = record c.args.body.now { parts = c.read_all.new.parts; transports = c.read_all.new.self } in
    answers_on c.args.task c.args.body.now new (reads_all c.args.task (reader_as c.args.from) c.args.taken)
    (Bytes c.in-Ok-joined.all)
    (subst
    (λ (bytes : List ℕ).
    RepliesOn g.X.Extra.added c.args.task (reads_all c.args.task (reader_as c.args.from) c.args.taken) c.args.body.now new
    (Ok (said.Answers (Bytes bytes))))
    (sym all)
    (all_answers c.args.task c.args.body.now c.requires c.args.from c.read_all.new.parts c.read_all.new.self c.args.taken
    (all_got c.in-Ok.field-0) c.in-Ok.ensures.told
    c.in-Bytes.rest is))
    c.answers.result c.answers.ensures

pub returns-in-Raises : goal.returns-in-Raises
returns-in-Raises g c =
    let is : c.in-Ok.field-0.got ≡ got.Raises c.in-Raises.fault = cc (c.in-Raises.is) in
    all_raises c.args.task c.args.body.now c.requires c.args.from c.read_all.new.parts c.read_all.new.self c.args.taken
    (all_got c.in-Ok.field-0) c.in-Ok.ensures.told
    c.in-Raises.fault is

pub returns-in_ok-stand_far-in-Ok-joined-2 : goal.returns-in_ok-stand_far-in-Ok-joined-2
returns-in_ok-stand_far-in-Ok-joined-2 g c =
    let is : c.in-Ok.field-0.got ≡ got.Waits c.in-Waits.on = cc (c.in-Waits.is) in
    let all : c.in-Ok-joined-2.taken ≡ c.args.taken ++ c.in-Ok.field-0.taken = cc (c.in-Ok-joined-2.ensures) in
    all_suspends c.args.task c.args.body.now c.requires c.args.from c.read_all.new.parts c.read_all.new.self c.args.taken
    (all_got c.in-Ok.field-0) c.in-Ok.ensures.told
    c.in-Waits.on is c.stand_far.new.self c.suspend-suspension.new.self c.in_ok-stand_far-in-Ok-joined-2.ensures.frame
    (c.in_ok-stand_far-in-Ok-joined-2.ensures.slots
    ∙ ap (λ (bytes : List ℕ). resume_point_at c.args.task (ReadingAll c.args.from bytes c.in-Waits.on) c.args.body.now.slots.items)
    all)
    (record {
      after = c.suspend-suspension.ensures.after;
      queue = c.suspend-suspension.ensures.queue;
      frame = c.suspend-suspension.ensures.frame;
    })
