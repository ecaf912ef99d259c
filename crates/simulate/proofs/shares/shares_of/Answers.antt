use Rattle.std.proofs.Common.{◌+◌, ◌-◌, refl, arith}
use Rattle.std.proofs.Math.Nat.{div-le_self}
use Rattle.simulate.proofs.Ends.{Covers-none, Covers-snoc}
use Rattle.simulate.proofs.shares.shares_of.Goals as goal

pub loop-number-init : goal.loop-number-init
loop-number-init c =
    (rw c.new-shares.ensures.items (Covers-none 0), omega arith, omega (arith, c.new-shares.ensures.len))

pub loop-number-preserved : goal.loop-number-preserved
loop-number-preserved c =
    let l = c.loop-number in
    let most = div-le_self (c.args.runs - l.before) (c.max-count.result - l.number + 1) in (
      rw c.in_ok-push.ensures.items (Covers-snoc 0 l.before _ l.shares.items _ l.invariant.0 refl refl),
      omega (arith, most, l.invariant.1),
      omega (arith, c.in_ok-push.ensures.len, l.invariant.2),
    )

pub returns-clause-each : goal.returns-clause-each
returns-clause-each c =
    let l = c.loop-number in
    rw c.in_ok-push-2.ensures.items (
    Covers-snoc 0 l.before _ l.shares.items _ l.invariant.0 refl (omega (arith, l.invariant.1)))

pub returns-clause-few : goal.returns-clause-few
returns-clause-few c =
    let l = c.loop-number in
    grind (arith, l.invariant.2, c.in_ok-push-2.ensures.len, l.auto.number-end, c.min.ensures, c.max-count.ensures)
