use Rattle.refine_streams.proofs.GivingUp.{gives_up_so}
use Rattle.refine_streams.proofs.bodies.a_read_is_given_up.Goals as goal

pub returns : goal.returns
returns g c = gives_up_so
