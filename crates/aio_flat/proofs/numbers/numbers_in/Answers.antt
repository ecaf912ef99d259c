use Rattle.std.proofs.Common.{◌≡◌, ◌+◌, ◌-◌, drop, length, subst, sym, arith}
use Rattle.aio_flat.specs.Numbers.{HasNumbers}
use Rattle.aio_flat.proofs.PlaceLemmas.{drop-before}
use Rattle.aio_flat.proofs.NumberLemmas.{HasNumbers-insert}
use Rattle.aio_flat.proofs.numbers.numbers_in.Goals as goal

pub loop-at-preserved : goal.loop-at-preserved
loop-at-preserved c =
    let names = c.args.names.now in
    let l = c.loop-at in
    let name = c.index-names-at.result in
    let next : l.at ≡ l.at - 1 + 1 = omega arith in
    record {
      in_range = omega (arith, l.invariant.in_range);
      has =
          subst (HasNumbers c.insert.new.self (length names) (l.at - 1))
          (sym (drop-before names l.at name c.loop-at-test.true l.invariant.in_range c.index-names-at.is))
          (HasNumbers-insert l.numbers c.insert.new.self c.as_str.result (length names) (l.at - 1) name (drop l.at names)
          (sym c.as_str.ensures) c.in_ok-insert.ensures.updates
          (subst (λ n. HasNumbers l.numbers (length names) n (drop l.at names)) next l.invariant.has));
    }
