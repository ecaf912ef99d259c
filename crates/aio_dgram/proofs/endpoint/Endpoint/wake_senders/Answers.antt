use Rattle.std.proofs.Common.{subst, sym}
use Rattle.std.specs.List.{flat_map}
use Rattle.model_dgram.specs.Endpoints.{wakes_at}
use Rattle.refine_added.specs.Seen.{SeesAll}
use Rattle.aio_dgram.specs.Keeps.{waits}
use Rattle.aio_dgram.proofs.Woken.{seen_both}
use Rattle.aio_dgram.proofs.endpoint.Endpoint.wake_senders.Goals as goal

pub loop-place-preserved : goal.loop-place-preserved
loop-place-preserved c =
    let l = c.loop-place in
    let kept = waits c.args.waiting.now.entries in
    let place = c.in-Some.place.now in
    let rest = c.next.new.self in
    record {
      idle = c.wake_at.ensures.idle;
      free = c.wake_at.ensures.free;
      rest = λ known w seen.
          l.invariant.rest known w
          (subst (λ places. SeesAll known (flat_map (wakes_at kept) places) l.parts w) (sym c.in-Some.ensures.steps)
          (seen_both known (wakes_at kept place) (flat_map (wakes_at kept) rest) l.parts c.wake_at.new.parts w (c.wake_at.ensures.steps known) seen));
    }
