use Rattle.aio_body.proofs.Noting.{stands_noted}
use Rattle.aio_body.proofs.laws.events.an_event_more_is_noted.Goals as goal

pub returns : goal.returns
returns g c = stands_noted
