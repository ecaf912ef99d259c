-- What serves for both serves for those before the bar.
use Rattle.std.proofs.Common.{refl}
use Rattle.aio_ready.specs.Registered.{state}
use Rattle.aio_ready.proofs.Reaching.{in_a_row, lowered}
use Rattle.aio_ready.proofs.Seeing.{queue_barred}
use Rattle.aio_ready.proofs.ready.Ready.set_bar.Goals as goal

pub invariant_of-self : goal.invariant_of-self
invariant_of-self c =
    let inside = c.self.inside in
    let least = c.least_at_bar-self-inside.result in
    let rest = c.self.invariant.1 in
    rw (c.append.ensures.after, c.append.ensures.other) (
      c.self.invariant.0,
      (
        in_a_row least inside.below inside.late c.least_at_bar-self-inside.ensures.below
            (lowered least inside.least_late inside.late c.least_at_bar-self-inside.ensures.late rest.1.0),
        (refl, queue_barred (state inside.register) inside.below inside.late rest.1.1),
      ),
    )
