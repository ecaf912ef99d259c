-- Those after the bar are marked in the order of the stack, and marks leave names.
use Rattle.std.proofs.Common.{refl}
use Rattle.aio_ready.specs.Registered.{state}
use Rattle.aio_ready.proofs.Reaching.{marks_leave}
use Rattle.aio_ready.proofs.Seeing.{queue_marked, seen_marked}
use Rattle.aio_ready.proofs.ready.Ready.mark.Goals as goal

pub invariant_of-self : goal.invariant_of-self
invariant_of-self c =
    let inside = c.self.inside in
    let rest = c.self.invariant.1 in
    rw (c.mark.ensures, c.mark-2.ensures) (
      c.self.invariant.0,
      (
        rw (marks_leave inside.least_below c.args.name inside.below) rest.0,
        (
          rw (marks_leave inside.least_late c.args.name inside.late) rest.1.0,
          queue_marked (state inside.register) (state c.strike.new.self) c.args.name inside.below inside.late c.strike.ensures rest.1.1,
        ),
      ),
    )

pub returns : goal.returns
returns c =
    let inside = c.self.inside in
    let now = seen_marked (state inside.register) (state c.strike.new.self) c.args.name inside.below inside.late c.strike.ensures
    c.self.invariant.1.1.1 in
    rw (c.mark.ensures, c.mark-2.ensures, now.0, now.1, ← c.self.view_is) refl
