use Rattle.std.proofs.Common.{drop, length, map, subst, arith}
use Rattle.model_text.specs.SecondPass.{callee}
use Rattle.script_naming.specs.Parts.{plain_parts}
use Rattle.script_naming.specs.Scope.{FindsFirst}
use Rattle.script_naming.proofs.Names.{FindsFirst-insert, callees-before}
use Rattle.script_naming.proofs.callees.arities_of.Goals as goal

pub loop-at-preserved : goal.loop-at-preserved
loop-at-preserved c =
    let parts = c.args.parts.now in
    let part = c.index-parts-at.result in
    let at = c.loop-at.at in
    record {
      in_range = omega (arith, c.loop-at.invariant.in_range);
      finds =
          subst (FindsFirst c.insert.new.self)
          (callees-before parts at part c.as_str.result.now c.loop-at-test.true c.loop-at.invariant.in_range c.index-parts-at.is c.as_str.ensures.value)
          (FindsFirst-insert c.loop-at.arities c.insert.new.self c.as_str.result (length part.parameters.now)
          (map callee (plain_parts (drop at parts))) c.in_ok-insert.ensures.updates c.loop-at.invariant.finds);
    }
