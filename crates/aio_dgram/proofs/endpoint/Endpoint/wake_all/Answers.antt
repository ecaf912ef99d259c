use Rattle.std.specs.List.{flat_map}
use Rattle.model_dgram.specs.Endpoints.{wakes_at, wakes_receiver}
use Rattle.aio_dgram.specs.Keeps.{waits}
use Rattle.aio_dgram.proofs.Woken.{seen_both}
use Rattle.aio_dgram.proofs.endpoint.Endpoint.wake_all.Goals as goal

pub returns : goal.returns
returns c =
    let kept = waits c.args.waiting.now.entries in
    let x = c.args.self.now in
    λ known. seen_both known (flat_map (wakes_at kept) x.senders) (wakes_receiver kept x.receiver) c.args.parts.now c.wake_senders.new.parts
    c.wake_receiver.new.parts (c.wake_senders.ensures.steps known) (c.wake_receiver.ensures known)
