use Rattle.std.proofs.Common.{None, sym, ap, w64, ◌∙◌}
use Rattle.std.proofs.lemmas.Int.{to_z-of_z}
use Rattle.std.proofs.lemmas.Result.{on_ok_weaker}
use Rattle.model_reach.specs.Reach.{part_of_code, part_of_hundred}
use Rattle.aio_reach.proofs.Lifting.{may}
use Rattle.aio_reach.proofs.Routing.{hears, nobody_hears}
use Rattle.aio_reach.proofs.Parts.{dgram_holds, dgram_is, exec_holds, exec_is, gather_holds, gather_is, nobodys, sync_holds, sync_is}
use Rattle.aio_reach.proofs.four.Four.hear_part.Goals as goal

pub item-requires : goal.item-requires
item-requires g c = record {
  serves = may (gather_holds g.A.Extra.added g.B.Extra.added g.C.Extra.added g.D.Extra.added c.requires.0) None c.args.self.now
      c.args.parts.now c.requires.1;
}

pub returns-then-hundred-eq1 : goal.returns-then-hundred-eq1
returns-then-hundred-eq1 g c = λ keyed.
    let code = to_z-of_z w64 c.args.code c.ranges.code in
    on_ok_weaker c.item.result
    (λ so. hears (gather_is g.A.Extra.added g.B.Extra.added g.C.Extra.added g.D.Extra.added keyed)
    c.args.self.now c.item.new.self c.args.parts.now c.item.new.parts c.args.code _ code
    (sym (ap part_of_code code) ∙ c.hundred_of-hundred.ensures ∙ ap part_of_hundred c.if-hundred-eq1.true) c.args.bytes.now so)
    c.item.ensures

pub item-requires-then-hundred-eq2 : goal.item-requires-then-hundred-eq2
item-requires-then-hundred-eq2 g c = record {
  serves = may (sync_holds g.A.Extra.added g.B.Extra.added g.C.Extra.added g.D.Extra.added c.requires.0) None c.args.self.now
      c.args.parts.now c.requires.1;
}

pub returns-then-hundred-eq2 : goal.returns-then-hundred-eq2
returns-then-hundred-eq2 g c = λ keyed.
    let code = to_z-of_z w64 c.args.code c.ranges.code in
    on_ok_weaker c.item-then-hundred-eq2.result
    (λ so. hears (sync_is g.A.Extra.added g.B.Extra.added g.C.Extra.added g.D.Extra.added keyed)
    c.args.self.now c.item-then-hundred-eq2.new.self c.args.parts.now c.item-then-hundred-eq2.new.parts c.args.code _ code
    (sym (ap part_of_code code) ∙ c.hundred_of-hundred.ensures ∙ ap part_of_hundred c.if-hundred-eq2.true) c.args.bytes.now so)
    c.item-then-hundred-eq2.ensures

pub item-requires-then-hundred-eq3 : goal.item-requires-then-hundred-eq3
item-requires-then-hundred-eq3 g c = record {
  serves = may (exec_holds g.A.Extra.added g.B.Extra.added g.C.Extra.added g.D.Extra.added c.requires.0) None c.args.self.now
      c.args.parts.now c.requires.1;
}

pub returns-then-hundred-eq3 : goal.returns-then-hundred-eq3
returns-then-hundred-eq3 g c = λ keyed.
    let code = to_z-of_z w64 c.args.code c.ranges.code in
    on_ok_weaker c.item-then-hundred-eq3.result
    (λ so. hears (exec_is g.A.Extra.added g.B.Extra.added g.C.Extra.added g.D.Extra.added keyed)
    c.args.self.now c.item-then-hundred-eq3.new.self c.args.parts.now c.item-then-hundred-eq3.new.parts c.args.code _ code
    (sym (ap part_of_code code) ∙ c.hundred_of-hundred.ensures ∙ ap part_of_hundred c.if-hundred-eq3.true) c.args.bytes.now so)
    c.item-then-hundred-eq3.ensures

pub item-requires-then-hundred-eq4 : goal.item-requires-then-hundred-eq4
item-requires-then-hundred-eq4 g c = record {
  serves = may (dgram_holds g.A.Extra.added g.B.Extra.added g.C.Extra.added g.D.Extra.added c.requires.0) None c.args.self.now
      c.args.parts.now c.requires.1;
}

pub returns-then-hundred-eq4 : goal.returns-then-hundred-eq4
returns-then-hundred-eq4 g c = λ keyed.
    let code = to_z-of_z w64 c.args.code c.ranges.code in
    on_ok_weaker c.item-then-hundred-eq4.result
    (λ so. hears (dgram_is g.A.Extra.added g.B.Extra.added g.C.Extra.added g.D.Extra.added keyed)
    c.args.self.now c.item-then-hundred-eq4.new.self c.args.parts.now c.item-then-hundred-eq4.new.parts c.args.code _ code
    (sym (ap part_of_code code) ∙ c.hundred_of-hundred.ensures ∙ ap part_of_hundred c.if-hundred-eq4.true) c.args.bytes.now so)
    c.item-then-hundred-eq4.ensures

pub returns : goal.returns
returns g c = λ keyed.
    let code = to_z-of_z w64 c.args.code c.ranges.code in
    nobody_hears g.A.Extra.added g.B.Extra.added g.C.Extra.added g.D.Extra.added keyed c.args.self.now c.args.parts.now c.args.code
    (sym (ap part_of_code code) ∙ c.hundred_of-hundred.ensures
    ∙ nobodys c.hundred_of-hundred.result c.if-hundred-eq1.false c.if-hundred-eq2.false c.if-hundred-eq3.false c.if-hundred-eq4.false)
    c.args.bytes.now
