-- The new one is the last of those after the bar.
use Rattle.std.proofs.Common.{refl}
use Rattle.aio_ready.specs.Registered.{state}
use Rattle.aio_ready.proofs.Reaching.{lowered, loose_reached, registered_reached}
use Rattle.aio_ready.proofs.Seeing.{queue_loose, queue_entered, seen_entered}
use Rattle.aio_ready.proofs.ready.Ready.append.Goals as goal

pub invariant_of-self : goal.invariant_of-self
invariant_of-self c =
    let inside = c.self.inside in
    let rest = c.self.invariant.1 in
    rw c.push.ensures (
      c.self.invariant.0,
      (
        rest.0,
        (
          registered_reached inside.least_late c.args.name c.args.action inside.late rest.1.0,
          queue_entered (state inside.register) (state c.enter.new.self) c.args.name c.args.action inside.below inside.late
              c.in-Ok.ensures.after c.in-Ok.ensures.free c.in-Ok.ensures.there rest.1.1,
        ),
      ),
    )

pub returns-in-Ok : goal.returns-in-Ok
returns-in-Ok c =
    let inside = c.self.inside in
    let now = seen_entered (state inside.register) (state c.enter.new.self) c.args.name c.args.action inside.below inside.late
    c.in-Ok.ensures.after c.in-Ok.ensures.free c.in-Ok.ensures.there c.self.invariant.1.1.1 in
    rw (c.push.ensures, now.before, now.after, ← c.self.view_is) refl

pub invariant_of-self-in-Err : goal.invariant_of-self-in-Err
invariant_of-self-in-Err c =
    let inside = c.self.inside in
    let rest = c.self.invariant.1 in
    rw (c.in-Err.ensures.err, c.push-in-Err.ensures) (
      c.self.invariant.0,
      (
        rest.0,
        (
          loose_reached c.with-self-inside.result _ _ inside.late
              (lowered c.with-self-inside.result inside.least_late inside.late c.with-self-inside.ensures.below rest.1.0)
              c.with-self-inside.ensures.name,
          queue_loose (state inside.register) _ _ inside.below inside.late rest.1.1,
        ),
      ),
    )
