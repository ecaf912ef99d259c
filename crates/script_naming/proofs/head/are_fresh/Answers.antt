use Rattle.std.proofs.Common.{rules, ◌≡◌, ◌-◌, true, false, ◌&&◌, drop, map, ap, ap₂, sym, ◌∙◌, subst, arith}
use Rattle.std.specs.Rc.{rc_str_bytes}
use Rattle.model_text.specs.SecondPass.{are_fresh}
use Rattle.script_naming.specs.Scope.{Holds}
use Rattle.script_naming.proofs.Names.{drop-before}
use Rattle.script_naming.proofs.Heads.{stale-behind, are_fresh-before}
use Rattle.script_naming.proofs.head.are_fresh.Goals as goal

pub returns-then-not-branch : goal.returns-then-not-branch
returns-then-not-branch c =
    let names = c.args.names.now in
    let at = c.loop-at.at in
    let behind = map rc_str_bytes (drop at names) in
    let known : c.in_ok-adds.field-0 ≡ false = search rules in
    let free = c.in_ok-adds.ensures.free behind c.loop-at.invariant.holds in
    sym
    (stale-behind names (at - 1)
    (are_fresh-before names at c.index-names-at.result c.loop-at-test.true c.loop-at.invariant.in_range c.index-names-at.is
    ∙ ap (λ b. b && are_fresh behind) (sym free ∙ known)))

pub loop-at-preserved : goal.loop-at-preserved
loop-at-preserved c =
    let names = c.args.names.now in
    let at = c.loop-at.at in
    let name = c.index-names-at.result in
    let behind = map rc_str_bytes (drop at names) in
    let known : c.in_ok-adds.field-0 ≡ true = search rules in
    let free = c.in_ok-adds.ensures.free behind c.loop-at.invariant.holds in
    let more = drop-before names at name c.loop-at-test.true c.loop-at.invariant.in_range c.index-names-at.is in
    record {
      in_range = omega (arith, c.loop-at.invariant.in_range);
      holds = subst (λ l. Holds c.adds.new.later (map rc_str_bytes l)) (sym more) (c.in_ok-adds.ensures.holds behind c.loop-at.invariant.holds);
      fresh = are_fresh-before names at name c.loop-at-test.true c.loop-at.invariant.in_range c.index-names-at.is
          ∙ ap₂ (λ a b. a && b) (sym free ∙ known) c.loop-at.invariant.fresh;
    }
