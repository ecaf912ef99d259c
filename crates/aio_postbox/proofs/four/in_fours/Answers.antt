use Rattle.std.proofs.Common.{◌*◌, ◌+◌, ◌∙◌, arith}
use Rattle.aio_postbox.proofs.Grouping.{none_yet, some_left, one, four_next}
use Rattle.aio_postbox.proofs.four.in_fours.Goals as goal

pub loop-n-init : goal.loop-n-init
loop-n-init g c = (
  c.requires.count,
  c.requires.is,
  none_yet c.requires.count c.from-left.result.items c.new-fours.result.items (c.from-left.ensures.0 ∙ c.requires.all)
      c.new-fours.ensures.items,
)

pub first-stdin-requires : goal.first-stdin-requires
first-stdin-requires g c =
    let inv = c.loop-n.invariant in
    let n = c.loop-n._n in
    let all = inv.0 in
    let so_far = inv.2 in
    some_left all (4 * n) c.loop-n.left.items (omega (arith, inv.1, c.loop-n-test.true)) so_far.rest

pub first-out-requires : goal.first-out-requires
first-out-requires g c =
    let inv = c.loop-n.invariant in
    let n = c.loop-n._n in
    let all = inv.0 in
    let so_far = inv.2 in
    let a = one all (4 * n) c.loop-n.left.items c.first-stdin.new.left.items c.first-stdin.result (omega (arith, inv.1, c.loop-n-test.true)) so_far.rest
    c.first-stdin.ensures in
    some_left all (4 * n + 1) c.first-stdin.new.left.items (omega (arith, inv.1, c.loop-n-test.true)) a.1

pub first-errs-requires : goal.first-errs-requires
first-errs-requires g c =
    let inv = c.loop-n.invariant in
    let n = c.loop-n._n in
    let all = inv.0 in
    let so_far = inv.2 in
    let a = one all (4 * n) c.loop-n.left.items c.first-stdin.new.left.items c.first-stdin.result (omega (arith, inv.1, c.loop-n-test.true)) so_far.rest
    c.first-stdin.ensures in
    let b = one all (4 * n + 1) c.first-stdin.new.left.items c.first-out.new.left.items c.first-out.result (omega (arith, inv.1, c.loop-n-test.true)) a.1
    c.first-out.ensures in
    some_left all (4 * n + 1 + 1) c.first-out.new.left.items (omega (arith, inv.1, c.loop-n-test.true)) b.1

pub first-exit-requires : goal.first-exit-requires
first-exit-requires g c =
    let inv = c.loop-n.invariant in
    let n = c.loop-n._n in
    let all = inv.0 in
    let so_far = inv.2 in
    let a = one all (4 * n) c.loop-n.left.items c.first-stdin.new.left.items c.first-stdin.result (omega (arith, inv.1, c.loop-n-test.true)) so_far.rest
    c.first-stdin.ensures in
    let b = one all (4 * n + 1) c.first-stdin.new.left.items c.first-out.new.left.items c.first-out.result (omega (arith, inv.1, c.loop-n-test.true)) a.1
    c.first-out.ensures in
    let d = one all (4 * n + 1 + 1) c.first-out.new.left.items c.first-errs.new.left.items c.first-errs.result (omega (arith, inv.1, c.loop-n-test.true)) b.1
    c.first-errs.ensures in
    some_left all (4 * n + 1 + 1 + 1) c.first-errs.new.left.items (omega (arith, inv.1, c.loop-n-test.true)) d.1

pub loop-n-preserved : goal.loop-n-preserved
loop-n-preserved g c =
    let inv = c.loop-n.invariant in
    let n = c.loop-n._n in
    let all = inv.0 in
    let so_far = inv.2 in (
      all,
      inv.1,
      four_next all n c.loop-n.left.items c.first-stdin.new.left.items c.first-out.new.left.items c.first-errs.new.left.items
          c.first-exit.new.left.items c.loop-n.fours.items c.first-stdin.result c.first-out.result c.first-errs.result c.first-exit.result
          (omega (arith, inv.1, c.loop-n-test.true)) so_far c.first-stdin.ensures c.first-out.ensures c.first-errs.ensures
          c.first-exit.ensures c.push_back.new.self.items c.in_ok-push_back.ensures.items,
    )

pub returns : goal.returns
returns g c =
    record {
      count = c.loop-n._n;
      is = omega (arith, c.loop-n-test.false);
      all = c.loop-n.invariant.2.seats;
    }
