-- The first of a side takes the place of the first.
use Rattle.std.proofs.Common.{[]}
use Rattle.aio_ready.proofs.Changes.{low_lifted, high_lifted}
use Rattle.aio_ready.proofs.index.Index.+lift.Goals as goal

pub returns-in-Some-clause-some : goal.returns-in-Some-clause-some
returns-in-Some-clause-some t c =
    let sides = c.deref_mut.result.now in
    rw (← c.self.view_is, ← c.replace.ensures.value, c.in-More.is, ← c.deref_mut.ensures.value)
    (low_lifted c.in-More.own c.in-Some.half c.in-More.said c.in-Some.other sides.0 c.lift.new.self sides.1 c.in-Some.ensures.some)

pub returns-in-Some-lift-clause-some : goal.returns-in-Some-lift-clause-some
returns-in-Some-lift-clause-some t c =
    let sides = c.deref_mut.result.now in
    let none = c.in_default.ensures.none in
    rw (
      ← c.self.view_is,
      ← c.replace.ensures.value,
      c.in-More.is,
      ← c.deref_mut.ensures.value,
      c.deref_mut-in_default.ensures.value,
      none.0,
      none.1,
    )
    (high_lifted c.in-More.own c.in-Some-lift.half c.in-More.said c.in-Some-lift.other [] sides.1 c.lift-in_default.new.self
    (rw c.deref_mut-in_default.ensures.value at c.in-Some-lift.ensures.some))
