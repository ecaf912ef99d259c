use Rattle.std.proofs.Common.{◌<◌, ap, sym, subst, ◌∙◌}
use Rattle.std.specs.List.{AllByRecursion as Each}
use Rattle.model_dgram.specs.Endpoints.{Endpoint}
use Rattle.model_dgram.specs.Sending.{stand_last}
use Rattle.aio_sync.proofs.Rising.{insert_last}
use Rattle.aio_dgram.proofs.endpoint.Endpoint.stand_last.Goals as goal

pub returns : goal.returns
returns c =
    let x = c.self.inside in
    let place = c.args.place in
    ap (λ senders. record { held = x.held.items; senders = senders; receiver = x.receiver })
    (c.in_ok-insert.ensures.keys ∙ insert_last x.senders.keys place
    (subst (λ (e : Endpoint). Each (λ other. other < place) e.senders) (sym c.self.view_is) c.requires))
    ∙ ap (stand_last place) c.self.view_is
