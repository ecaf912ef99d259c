use Rattle.std.proofs.Common.{sym, ap, w64, ◌∙◌}
use Rattle.std.proofs.lemmas.Int.{to_z-of_z}
use Rattle.std.proofs.lemmas.Result.{IfOk-weaker}
use Rattle.model_machine.specs.Extra.{unknown_code}
use Rattle.model_reach.specs.Reach.{part_of_code, part_of_hundred}
use Rattle.aio_extra.specs.declared.asked.Asked.TheVariants.{Raise}
use Rattle.aio_reach.proofs.Lifting.{may_ask}
use Rattle.aio_reach.proofs.Routing.{asks, nobody_asks}
use Rattle.aio_reach.proofs.Parts.{dgram_holds, dgram_is, exec_holds, exec_is, gather_holds, gather_is, nobodys, sync_holds, sync_is}
use Rattle.aio_reach.proofs.four.Four.ask_part.Goals as goal

pub ask-requires : goal.ask-requires
ask-requires g c =
    may_ask (gather_holds g.A.Extra.added g.B.Extra.added g.C.Extra.added g.D.Extra.added c.requires.0)
    c.args.task c.args.futures.now c.args.arguments.now c.args.self.now c.args.parts.now c.requires.1

pub returns-then-hundred-eq1 : goal.returns-then-hundred-eq1
returns-then-hundred-eq1 g c = λ keyed.
    let code = to_z-of_z w64 c.args.code c.ranges.code in
    IfOk-weaker c.ask.result _ _
    (λ asked says. asks (gather_is g.A.Extra.added g.B.Extra.added g.C.Extra.added g.D.Extra.added keyed)
    c.args.self.now c.ask.new.self c.args.parts.now c.ask.new.parts c.args.task c.args.code _ code
    (sym (ap part_of_code code) ∙ c.hundred_of-hundred.ensures ∙ ap part_of_hundred c.if-hundred-eq1.true)
    c.args.futures.now c.args.arguments.now asked says) c.ask.ensures

pub ask-requires-then-hundred-eq2 : goal.ask-requires-then-hundred-eq2
ask-requires-then-hundred-eq2 g c =
    may_ask (sync_holds g.A.Extra.added g.B.Extra.added g.C.Extra.added g.D.Extra.added c.requires.0)
    c.args.task c.args.futures.now c.args.arguments.now c.args.self.now c.args.parts.now c.requires.1

pub returns-then-hundred-eq2 : goal.returns-then-hundred-eq2
returns-then-hundred-eq2 g c = λ keyed.
    let code = to_z-of_z w64 c.args.code c.ranges.code in
    IfOk-weaker c.ask-then-hundred-eq2.result _ _
    (λ asked says. asks (sync_is g.A.Extra.added g.B.Extra.added g.C.Extra.added g.D.Extra.added keyed)
    c.args.self.now c.ask-then-hundred-eq2.new.self c.args.parts.now c.ask-then-hundred-eq2.new.parts c.args.task c.args.code _ code
    (sym (ap part_of_code code) ∙ c.hundred_of-hundred.ensures ∙ ap part_of_hundred c.if-hundred-eq2.true)
    c.args.futures.now c.args.arguments.now asked says) c.ask-then-hundred-eq2.ensures

pub ask-requires-then-hundred-eq3 : goal.ask-requires-then-hundred-eq3
ask-requires-then-hundred-eq3 g c =
    may_ask (exec_holds g.A.Extra.added g.B.Extra.added g.C.Extra.added g.D.Extra.added c.requires.0)
    c.args.task c.args.futures.now c.args.arguments.now c.args.self.now c.args.parts.now c.requires.1

pub returns-then-hundred-eq3 : goal.returns-then-hundred-eq3
returns-then-hundred-eq3 g c = λ keyed.
    let code = to_z-of_z w64 c.args.code c.ranges.code in
    IfOk-weaker c.ask-then-hundred-eq3.result _ _
    (λ asked says. asks (exec_is g.A.Extra.added g.B.Extra.added g.C.Extra.added g.D.Extra.added keyed)
    c.args.self.now c.ask-then-hundred-eq3.new.self c.args.parts.now c.ask-then-hundred-eq3.new.parts c.args.task c.args.code _ code
    (sym (ap part_of_code code) ∙ c.hundred_of-hundred.ensures ∙ ap part_of_hundred c.if-hundred-eq3.true)
    c.args.futures.now c.args.arguments.now asked says) c.ask-then-hundred-eq3.ensures

pub ask-requires-then-hundred-eq4 : goal.ask-requires-then-hundred-eq4
ask-requires-then-hundred-eq4 g c =
    may_ask (dgram_holds g.A.Extra.added g.B.Extra.added g.C.Extra.added g.D.Extra.added c.requires.0)
    c.args.task c.args.futures.now c.args.arguments.now c.args.self.now c.args.parts.now c.requires.1

pub returns-then-hundred-eq4 : goal.returns-then-hundred-eq4
returns-then-hundred-eq4 g c = λ keyed.
    let code = to_z-of_z w64 c.args.code c.ranges.code in
    IfOk-weaker c.ask-then-hundred-eq4.result _ _
    (λ asked says. asks (dgram_is g.A.Extra.added g.B.Extra.added g.C.Extra.added g.D.Extra.added keyed)
    c.args.self.now c.ask-then-hundred-eq4.new.self c.args.parts.now c.ask-then-hundred-eq4.new.parts c.args.task c.args.code _ code
    (sym (ap part_of_code code) ∙ c.hundred_of-hundred.ensures ∙ ap part_of_hundred c.if-hundred-eq4.true)
    c.args.futures.now c.args.arguments.now asked says) c.ask-then-hundred-eq4.ensures

pub returns : goal.returns
returns g c = λ keyed.
    let code = to_z-of_z w64 c.args.code c.ranges.code in
    IfOk-weaker c.unknown.result _ _
    (λ asked is. nobody_asks g.A.Extra.added g.B.Extra.added g.C.Extra.added g.D.Extra.added keyed c.args.self.now c.args.parts.now
    c.args.task c.args.code
    (sym (ap part_of_code code) ∙ c.hundred_of-hundred.ensures
    ∙ nobodys c.hundred_of-hundred.result c.if-hundred-eq1.false c.if-hundred-eq2.false c.if-hundred-eq3.false c.if-hundred-eq4.false)
    c.args.futures.now c.args.arguments.now asked (is ∙ ap (λ code. Raise (unknown_code code)) code)) c.unknown.ensures
