use Rattle.model_value.specs.Value.{Bytes}
use Rattle.model_machine.specs.Replies.{reads}
use Rattle.aio_transports.specs.Readers.{reader_as}
use Rattle.aio_streaming.proofs.Looks.{answers_on, on_idle, on_owned, on_within, read_answers, read_pending, read_raises, read_suspends, read_running}
use Rattle.aio_streaming.proofs.reading.reads.Goals as goal

pub read-requires-clause-idle : goal.read-requires-clause-idle
read-requires-clause-idle g c = on_idle c.args.task c.args.body.now c.requires

pub read-requires-clause-own : goal.read-requires-clause-own
read-requires-clause-own g c = on_owned c.args.task c.args.body.now c.requires

pub suspend-suspension-requires-clause-running : goal.suspend-suspension-requires-clause-running
suspend-suspension-requires-clause-running g c =
    read_running c.args.task c.args.body.now c.requires c.args.from c.read.new.parts c.read.new.self c.args.op
    c.in-Ok-Waits.field-0
    c.in-Ok-Waits.ensures.told c.in-Ok-Waits.on c.in-Ok-Waits.field-0-is

pub suspend-suspension-requires-clause-pending : goal.suspend-suspension-requires-clause-pending
suspend-suspension-requires-clause-pending g c =
    read_pending c.args.task c.args.body.now c.requires c.args.from c.read.new.parts c.read.new.self c.args.op
    c.in-Ok-Waits.field-0
    c.in-Ok-Waits.ensures.told c.in-Ok-Waits.on c.in-Ok-Waits.field-0-is

pub stand_far-requires : goal.stand_far-requires
stand_far-requires g c = on_within c.args.task c.args.body.now c.requires

pub returns-in-Ok-Bytes : goal.returns-in-Ok-Bytes
returns-in-Ok-Bytes g c =
    answers_on c.args.task c.args.body.now (record c.args.body.now { parts = c.read.new.parts; transports = c.read.new.self })
    (reads c.args.task c.args.op (reader_as c.args.from)) (Bytes c.in-Ok-Bytes.bytes)
    (read_answers c.args.task c.args.body.now c.requires c.args.from c.read.new.parts c.read.new.self c.args.op
    c.in-Ok-Bytes.field-0
    c.in-Ok-Bytes.ensures.told c.in-Ok-Bytes.bytes c.in-Ok-Bytes.field-0-is)
    c.answers.result c.answers.ensures

pub returns-in-Ok-Raises : goal.returns-in-Ok-Raises
returns-in-Ok-Raises g c =
    read_raises c.args.task c.args.body.now c.requires c.args.from c.read.new.parts c.read.new.self c.args.op
    c.in-Ok-Raises.field-0
    c.in-Ok-Raises.ensures.told c.in-Ok-Raises.fault c.in-Ok-Raises.field-0-is

pub returns-in_ok-stand_far-in-Ok-Waits : goal.returns-in_ok-stand_far-in-Ok-Waits
returns-in_ok-stand_far-in-Ok-Waits g c =
    read_suspends c.args.task c.args.body.now c.requires c.args.from c.read.new.parts c.read.new.self c.args.op c.in-Ok-Waits.field-0
    c.in-Ok-Waits.ensures.told c.in-Ok-Waits.on c.in-Ok-Waits.field-0-is c.stand_far.new.self c.suspend-suspension.new.self
    c.in_ok-stand_far-in-Ok-Waits.ensures.frame
    c.in_ok-stand_far-in-Ok-Waits.ensures.slots
    (record {
      after = c.suspend-suspension.ensures.after;
      queue = c.suspend-suspension.ensures.queue;
      frame = c.suspend-suspension.ensures.frame;
    })
