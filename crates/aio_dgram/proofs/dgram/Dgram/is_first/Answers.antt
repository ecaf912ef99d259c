use Rattle.std.proofs.Common.{ap, ◌∙◌}
use Rattle.model_dgram.specs.Endpoints.{Endpoint}
use Rattle.model_dgram.specs.Sending.{stands_first}
use Rattle.aio_dgram.proofs.Places.{is_found, is_lost}
use Rattle.aio_dgram.proofs.dgram.Dgram.is_first.Goals as goal

pub returns-in-Some : goal.returns-in-Some
returns-in-Some c = λ endpoint e.
    let a = c.args in
    c.is_first.ensures
    ∙ ap (λ (it : Endpoint). stands_first a.place it.senders)
    (is_found a.self.now.endpoints.entries a.id c.in-Some.endpoint.now endpoint c.in-Some.ensures.value e)

pub returns-in-None : goal.returns-in-None
returns-in-None c = λ endpoint e. is_lost c.args.self.now.endpoints.entries c.args.id endpoint c.in-None.ensures.value e
