use Rattle.std.proofs.Common.{None}
use Rattle.std.proofs.lemmas.Result.{on_ok_weaker}
use Rattle.aio_reach.proofs.Lifting.{may}
use Rattle.aio_reach.proofs.Routing.{acts}
use Rattle.aio_reach.proofs.Parts.{dgram_holds, dgram_is, dgram_key, exec_holds, exec_is, exec_key}
use Rattle.aio_reach.proofs.Parts.{gather_holds, gather_is, gather_key, sync_holds, sync_is, sync_key}
use Rattle.aio_reach.proofs.four.Four.act_part.Goals as goal

pub act-requires : goal.act-requires
act-requires g c = record {
  serves = may (gather_holds g.A.Extra.added g.B.Extra.added g.C.Extra.added g.D.Extra.added c.requires.0) None c.args.self.now
      c.args.parts.now c.requires.1;
}

pub returns-then-part-eq0 : goal.returns-then-part-eq0
returns-then-part-eq0 g c = λ keyed.
    on_ok_weaker c.act.result
    (λ so. acts (gather_is g.A.Extra.added g.B.Extra.added g.C.Extra.added g.D.Extra.added keyed)
    c.args.self.now c.act.new.self c.args.parts.now c.act.new.parts c.args.key
    (gather_key c.args.key c.if-part-eq0.true) so) c.act.ensures

pub act-requires-then-part-eq1 : goal.act-requires-then-part-eq1
act-requires-then-part-eq1 g c = record {
  serves = may (sync_holds g.A.Extra.added g.B.Extra.added g.C.Extra.added g.D.Extra.added c.requires.0) None c.args.self.now
      c.args.parts.now c.requires.1;
}

pub returns-then-part-eq1 : goal.returns-then-part-eq1
returns-then-part-eq1 g c = λ keyed.
    on_ok_weaker c.act-then-part-eq1.result
    (λ so. acts (sync_is g.A.Extra.added g.B.Extra.added g.C.Extra.added g.D.Extra.added keyed)
    c.args.self.now c.act-then-part-eq1.new.self c.args.parts.now c.act-then-part-eq1.new.parts c.args.key
    (sync_key c.args.key c.if-part-eq1.true) so) c.act-then-part-eq1.ensures

pub act-requires-then-part-eq2 : goal.act-requires-then-part-eq2
act-requires-then-part-eq2 g c = record {
  serves = may (exec_holds g.A.Extra.added g.B.Extra.added g.C.Extra.added g.D.Extra.added c.requires.0) None c.args.self.now
      c.args.parts.now c.requires.1;
}

pub returns-then-part-eq2 : goal.returns-then-part-eq2
returns-then-part-eq2 g c = λ keyed.
    on_ok_weaker c.act-then-part-eq2.result
    (λ so. acts (exec_is g.A.Extra.added g.B.Extra.added g.C.Extra.added g.D.Extra.added keyed)
    c.args.self.now c.act-then-part-eq2.new.self c.args.parts.now c.act-then-part-eq2.new.parts c.args.key
    (exec_key c.args.key c.if-part-eq2.true) so) c.act-then-part-eq2.ensures

pub act-requires-2 : goal.act-requires-2
act-requires-2 g c = record {
  serves = may (dgram_holds g.A.Extra.added g.B.Extra.added g.C.Extra.added g.D.Extra.added c.requires.0) None c.args.self.now
      c.args.parts.now c.requires.1;
}

pub returns : goal.returns
returns g c = λ keyed.
    on_ok_weaker c.act-2.result
    (λ so. acts (dgram_is g.A.Extra.added g.B.Extra.added g.C.Extra.added g.D.Extra.added keyed)
    c.args.self.now c.act-2.new.self c.args.parts.now c.act-2.new.parts c.args.key
    (dgram_key c.args.key c.if-part-eq0.false c.if-part-eq1.false c.if-part-eq2.false) so) c.act-2.ensures
