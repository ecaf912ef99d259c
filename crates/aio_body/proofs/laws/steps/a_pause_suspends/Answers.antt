use Rattle.aio_body.proofs.Rooms.{pauses_so}
use Rattle.aio_body.proofs.laws.steps.a_pause_suspends.Goals as goal

pub returns : goal.returns
returns g c = pauses_so
