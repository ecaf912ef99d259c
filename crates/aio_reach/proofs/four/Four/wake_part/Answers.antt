use Rattle.std.proofs.lemmas.Result.{IfOk-weaker}
use Rattle.aio_reach.proofs.Lifting.{may}
use Rattle.aio_reach.proofs.Routing.{wakes}
use Rattle.aio_reach.proofs.Parts.{dgram_holds, dgram_is, dgram_key, exec_holds, exec_is, exec_key}
use Rattle.aio_reach.proofs.Parts.{gather_holds, gather_is, gather_key, sync_holds, sync_is, sync_key}
use Rattle.aio_reach.proofs.four.Four.wake_part.Goals as goal

pub wake-requires-clause-serves : goal.wake-requires-clause-serves
wake-requires-clause-serves g c =
    may (gather_holds g.A.Extra.added g.B.Extra.added g.C.Extra.added g.D.Extra.added c.requires.serves.0)
    c.args.parts.now.running c.args.self.now c.args.parts.now c.requires.serves.1

pub returns-then-part-eq0 : goal.returns-then-part-eq0
returns-then-part-eq0 g c = λ keyed.
    IfOk-weaker c.wake.result _ _
    (λ asked says. wakes (gather_is g.A.Extra.added g.B.Extra.added g.C.Extra.added g.D.Extra.added keyed)
    c.args.self.now c.wake.new.self c.args.parts.now c.wake.new.parts c.requires.runs c.args.key c.args.input asked
    (gather_key c.args.key c.if-part-eq0.true) says) c.wake.ensures

pub wake-requires-then-part-eq1-clause-serves : goal.wake-requires-then-part-eq1-clause-serves
wake-requires-then-part-eq1-clause-serves g c =
    may (sync_holds g.A.Extra.added g.B.Extra.added g.C.Extra.added g.D.Extra.added c.requires.serves.0)
    c.args.parts.now.running c.args.self.now c.args.parts.now c.requires.serves.1

pub returns-then-part-eq1 : goal.returns-then-part-eq1
returns-then-part-eq1 g c = λ keyed.
    IfOk-weaker c.wake-then-part-eq1.result _ _
    (λ asked says. wakes (sync_is g.A.Extra.added g.B.Extra.added g.C.Extra.added g.D.Extra.added keyed)
    c.args.self.now c.wake-then-part-eq1.new.self c.args.parts.now c.wake-then-part-eq1.new.parts c.requires.runs c.args.key c.args.input asked
    (sync_key c.args.key c.if-part-eq1.true) says) c.wake-then-part-eq1.ensures

pub wake-requires-then-part-eq2-clause-serves : goal.wake-requires-then-part-eq2-clause-serves
wake-requires-then-part-eq2-clause-serves g c =
    may (exec_holds g.A.Extra.added g.B.Extra.added g.C.Extra.added g.D.Extra.added c.requires.serves.0)
    c.args.parts.now.running c.args.self.now c.args.parts.now c.requires.serves.1

pub returns-then-part-eq2 : goal.returns-then-part-eq2
returns-then-part-eq2 g c = λ keyed.
    IfOk-weaker c.wake-then-part-eq2.result _ _
    (λ asked says. wakes (exec_is g.A.Extra.added g.B.Extra.added g.C.Extra.added g.D.Extra.added keyed)
    c.args.self.now c.wake-then-part-eq2.new.self c.args.parts.now c.wake-then-part-eq2.new.parts c.requires.runs c.args.key c.args.input asked
    (exec_key c.args.key c.if-part-eq2.true) says) c.wake-then-part-eq2.ensures

pub wake-requires-2-clause-serves : goal.wake-requires-2-clause-serves
wake-requires-2-clause-serves g c =
    may (dgram_holds g.A.Extra.added g.B.Extra.added g.C.Extra.added g.D.Extra.added c.requires.serves.0)
    c.args.parts.now.running c.args.self.now c.args.parts.now c.requires.serves.1

pub returns : goal.returns
returns g c = λ keyed.
    IfOk-weaker c.wake-2.result _ _
    (λ asked says. wakes (dgram_is g.A.Extra.added g.B.Extra.added g.C.Extra.added g.D.Extra.added keyed)
    c.args.self.now c.wake-2.new.self c.args.parts.now c.wake-2.new.parts c.requires.runs c.args.key c.args.input asked
    (dgram_key c.args.key c.if-part-eq0.false c.if-part-eq1.false c.if-part-eq2.false) says) c.wake-2.ensures
