use Rattle.std.proofs.Common.{subst}
use Rattle.model_machine.specs.State as plain
use Rattle.aio_body.specs.Readers.{reader_as}
use Rattle.aio_body.specs.Stands.{Possible}
use Rattle.aio_body.specs.declared.resume_point.ResumePoint.TheVariants.{Leaving, Serving, Connecting, Yielding, Reading, ReadingAll}
use Rattle.aio_step.specs.Stepping.{IsDecidingAs}
use Rattle.aio_step.proofs.Deciding.{heard_alone, heard_asked, heard_on, heard_sleeping}
use Rattle.aio_step.proofs.First.{stood_is}
use Rattle.aio_step.proofs.Ready.{stood_of}
use Rattle.aio_step.proofs.steps.decide.Goals as goal

pub returns-in-Asked : goal.returns-in-Asked
returns-in-Asked g c =
    rw (c.reply_of.ensures, c.in-Asked.is) (heard_asked g.X.Extra.added g.W.Wire.outside c.args.task c.args.input c.args.body.now c.args.wire.now)

pub returns-in-Sleeping : goal.returns-in-Sleeping
returns-in-Sleeping g c =
    rw (c.reply_of-in-Sleeping.ensures, c.in-Sleeping.is) (heard_sleeping g.X.Extra.added g.W.Wire.outside c.args.task c.args.input c.args.body.now
    c.args.wire.now c.in-Sleeping.timer c.in-Sleeping.future)

pub leave_group-requires : goal.leave_group-requires
leave_group-requires g c =
    let code = Leaving c.in-Leaving.group in
    stood_of c.args.task code (plain.Leaving c.in-Leaving.group) (stood_is code) c.args.body.now
    (subst (λ x. Possible g.X.Extra.added (IsDecidingAs c.args.task x) c.args.body.now) c.in-Leaving.is c.requires.deciding)

pub returns-in-Leaving : goal.returns-in-Leaving
returns-in-Leaving g c =
    let code = Leaving c.in-Leaving.group in
    rw c.in-Leaving.is (heard_alone g.X.Extra.added g.W.Wire.outside c.args.task c.args.input c.args.body.now c.args.wire.now code
    (plain.Leaving c.in-Leaving.group) (stood_is code)
    c.leave_group.new.body c.leave_group.result c.leave_group.ensures c.or_stop.result c.or_stop.ensures)

pub wake-requires-clause-made : goal.wake-requires-clause-made
wake-requires-clause-made g c = c.requires.made

pub wake-requires-clause-deciding : goal.wake-requires-clause-deciding
wake-requires-clause-deciding g c =
    let code = Serving c.in-Serving.key in
    stood_of c.args.task code (plain.Serving c.in-Serving.key) (stood_is code) c.args.body.now
    (subst (λ x. Possible g.X.Extra.added (IsDecidingAs c.args.task x) c.args.body.now) c.in-Serving.is c.requires.deciding)

pub returns-in-Serving : goal.returns-in-Serving
returns-in-Serving g c =
    let code = Serving c.in-Serving.key in
    rw c.in-Serving.is (heard_on g.X.Extra.added g.W.Wire.outside c.args.task c.args.input c.args.body.now c.args.wire.now code
    (plain.Serving c.in-Serving.key) (stood_is code)
    c.wake.new.body c.wake.new.wire c.wake.result c.wake.ensures)

pub connected-requires : goal.connected-requires
connected-requires g c =
    let code = Connecting c.in-Connecting.conn c.in-Connecting.future in
    stood_of c.args.task code (plain.Connecting c.in-Connecting.conn) (stood_is code) c.args.body.now
    (subst (λ x. Possible g.X.Extra.added (IsDecidingAs c.args.task x) c.args.body.now) c.in-Connecting.is c.requires.deciding)

pub returns-in-Connecting : goal.returns-in-Connecting
returns-in-Connecting g c =
    let code = Connecting c.in-Connecting.conn c.in-Connecting.future in
    rw c.in-Connecting.is (heard_on g.X.Extra.added g.W.Wire.outside c.args.task c.args.input c.args.body.now c.args.wire.now code
    (plain.Connecting c.in-Connecting.conn) (stood_is code)
    c.connected.new.body c.connected.new.wire c.connected.result c.connected.ensures.comes)

pub yielded-requires : goal.yielded-requires
yielded-requires g c =
    let code = Yielding c.in-Yielding.whom in
    stood_of c.args.task code (plain.Yielding c.in-Yielding.whom) (stood_is code) c.args.body.now
    (subst (λ x. Possible g.X.Extra.added (IsDecidingAs c.args.task x) c.args.body.now) c.in-Yielding.is c.requires.deciding)

pub returns-in-Yielding : goal.returns-in-Yielding
returns-in-Yielding g c =
    let code = Yielding c.in-Yielding.whom in
    rw c.in-Yielding.is (heard_alone g.X.Extra.added g.W.Wire.outside c.args.task c.args.input c.args.body.now c.args.wire.now code
    (plain.Yielding c.in-Yielding.whom) (stood_is code)
    c.yielded.new.body c.yielded.result c.yielded.ensures c.or_stop-in-Yielding.result c.or_stop-in-Yielding.ensures)

pub read_on-requires : goal.read_on-requires
read_on-requires g c =
    let code = Reading c.in-Reading.from c.in-Reading.op c.in-Reading.on in
    stood_of c.args.task code (plain.Reading (reader_as c.in-Reading.from) c.in-Reading.op c.in-Reading.on) (stood_is code) c.args.body.now
    (subst (λ x. Possible g.X.Extra.added (IsDecidingAs c.args.task x) c.args.body.now) c.in-Reading.is c.requires.deciding)

pub returns-in-Reading : goal.returns-in-Reading
returns-in-Reading g c =
    let code = Reading c.in-Reading.from c.in-Reading.op c.in-Reading.on in
    rw c.in-Reading.is (heard_alone g.X.Extra.added g.W.Wire.outside c.args.task c.args.input c.args.body.now c.args.wire.now code
    (plain.Reading (reader_as c.in-Reading.from) c.in-Reading.op c.in-Reading.on) (stood_is code)
    c.read_on.new.body c.read_on.result c.read_on.ensures c.or_stop-in-Reading.result c.or_stop-in-Reading.ensures)

pub read_all_on-requires : goal.read_all_on-requires
read_all_on-requires g c =
    let code = ReadingAll c.in-ReadingAll.from c.in-ReadingAll.taken c.in-ReadingAll.on in
    stood_of c.args.task code (plain.ReadingAll (reader_as c.in-ReadingAll.from) c.in-ReadingAll.taken c.in-ReadingAll.on) (stood_is code) c.args.body.now
    (subst (λ x. Possible g.X.Extra.added (IsDecidingAs c.args.task x) c.args.body.now) c.in-ReadingAll.is c.requires.deciding)

pub returns-in-ReadingAll : goal.returns-in-ReadingAll
returns-in-ReadingAll g c =
    let code = ReadingAll c.in-ReadingAll.from c.in-ReadingAll.taken c.in-ReadingAll.on in
    rw c.in-ReadingAll.is (heard_alone g.X.Extra.added g.W.Wire.outside c.args.task c.args.input c.args.body.now c.args.wire.now code
    (plain.ReadingAll (reader_as c.in-ReadingAll.from) c.in-ReadingAll.taken c.in-ReadingAll.on) (stood_is code)
    c.read_all_on.new.body c.read_all_on.result c.read_all_on.ensures c.or_stop-in-ReadingAll.result c.or_stop-in-ReadingAll.ensures)
