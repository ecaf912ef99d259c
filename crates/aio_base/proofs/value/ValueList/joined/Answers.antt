-- What is read of both lists is what is counted of the new one.
use Rattle.std.proofs.Common.{arith}
use Rattle.aio_base.proofs.Joined.{joined_counted}
use Rattle.aio_base.proofs.value.ValueList.joined.Goals as goal

pub invariant_of-result : goal.invariant_of-result
invariant_of-result c =
    let front = c.front.inside in
    let back = c.back.inside in
    let counted = joined_counted front.items.items back.items.items front.weight front.depth back.weight back.depth
    c.front.invariant c.back.invariant in
    rw (
      c.in_ok-push_copies-2.ensures,
      c.in_ok-push_copies.ensures,
      c.in_ok-items.ensures.items,
      c.as_slice.ensures.value,
      c.as_slice-2.ensures.value,
    )
    (omega (arith, counted.0), omega (arith, counted.1))
