use Rattle.aio_body.proofs.Rooms.{requests_so}
use Rattle.aio_body.proofs.laws.steps.a_cancel_is_asked_for.Goals as goal

pub returns : goal.returns
returns g c = requests_so
