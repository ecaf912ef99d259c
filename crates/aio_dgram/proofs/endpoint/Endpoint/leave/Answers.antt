use Rattle.std.proofs.Common.{ap, ◌∙◌}
use Rattle.model_dgram.specs.Endpoints.{Endpoint}
use Rattle.model_sync.specs.Synced.{without}
use Rattle.aio_sync.proofs.Rising.{remove_only}
use Rattle.aio_dgram.proofs.endpoint.Endpoint.leave.Goals as goal

pub returns : goal.returns
returns c =
    let x = c.self.inside in
    ap (λ senders. record { held = x.held.items; senders = senders; receiver = x.receiver })
    (c.remove-was_there.ensures.keys ∙ remove_only x.senders.keys c.args.place c.self.invariant)
    ∙ ap (λ (e : Endpoint). record e { senders = without c.args.place e.senders }) c.self.view_is
