-- The register knows no other by the name that leaves.
use Rattle.std.proofs.Common.{refl}
use Rattle.aio_ready.specs.Registered.{state}
use Rattle.aio_ready.proofs.Seeing.{registered_left, first_held, seen_left}
use Rattle.aio_ready.proofs.ready.Ready.pop_below.Goals as goal

pub leave-dead-requires : goal.leave-dead-requires
leave-dead-requires c =
    let first = rw c.in-Registered.is at c.in-Some.ensures in
    let rest = rw first at c.self.invariant.1 in
    first_held (state c.self.inside.register) c.in-Registered.name c.in-Registered.action _ rest.1.1

pub invariant_of-self-in-Registered : goal.invariant_of-self-in-Registered
invariant_of-self-in-Registered c =
    let first = rw c.in-Registered.is at c.in-Some.ensures in
    let rest = rw first at c.self.invariant.1 in (
      c.self.invariant.0,
      (
        rest.0,
        (
          rest.1.0,
          registered_left (state c.self.inside.register) (state c.leave-dead.new.self) c.in-Registered.name c.in-Registered.action _
              c.leave-dead.ensures.after rest.1.1,
        ),
      ),
    )

pub returns-in-Registered : goal.returns-in-Registered
returns-in-Registered c =
    let first = rw c.in-Registered.is at c.in-Some.ensures in
    let rest = rw first at c.self.invariant.1 in
    let now = seen_left (state c.self.inside.register) (state c.leave-dead.new.self) c.in-Registered.name c.in-Registered.action
    c.pop.new.self c.self.inside.late c.leave-dead.ensures.after rest.1.1 in
    rw (now.0, now.1, c.leave-dead.ensures.dead, ← c.self.view_is, first) refl
