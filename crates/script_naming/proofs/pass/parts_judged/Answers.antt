use Rattle.std.proofs.Common.{[], ◌∷◌, map}
use Rattle.std.specs.Rc.{rc_str_bytes}
use Rattle.model_text.specs.SecondPass.{parts_judged}
use Rattle.aio_program.specs.Line.{plain_part as plain_named_part}
use Rattle.script_naming.specs.Parts.{plain_parts}
use Rattle.script_naming.proofs.Heads.{Holds-first}
use Rattle.script_naming.proofs.Judged.{judges-err, parts-fail, parts-more}
use Rattle.script_naming.proofs.pass.parts_judged.Goals as goal

pub returns-in_err-part_judged : goal.returns-in_err-part_judged
returns-in_err-part_judged c =
    let callees = c.args.callees.now in
    let parts = c.args.parts.now in
    let names = c.loop-part.invariant.0 in
    let fault = c.in_err-part_judged.field-0.0 in
    let whole = parts_judged callees [] (plain_parts parts) in
    judges-err (λ named. map plain_named_part named.items) whole c.from_residual.result fault c.from_residual.ensures.1
    (parts-fail callees names parts c.loop-part.part-index c.part-item.result whole
    (map plain_named_part c.loop-part.named.items) fault c.loop-part-test.true c.part-item.is c.loop-part.invariant.2
    (c.in_err-part_judged.ensures names c.loop-part.invariant.1))

pub loop-part-preserved : goal.loop-part-preserved
loop-part-preserved c =
    let callees = c.args.callees.now in
    let parts = c.args.parts.now in
    let part = c.part-item.result in
    let name = rc_str_bytes part.name.now in
    let names = c.loop-part.invariant.0 in
    let whole = parts_judged callees [] (plain_parts parts) in (
      name ∷ names,
      Holds-first c.bind.new.bound names name (c.in_ok-bind.ensures names c.loop-part.invariant.1),
      parts-more callees names parts c.loop-part.part-index part whole c.loop-part.named.items c.push.new.self.items
          c.in_ok-part_judged.field-0 c.loop-part-test.true c.part-item.is c.loop-part.invariant.2
          (c.in_ok-part_judged.ensures names c.loop-part.invariant.1) c.in_ok-push.ensures.items,
    )
