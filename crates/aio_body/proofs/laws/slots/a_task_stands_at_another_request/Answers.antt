use Rattle.aio_body.proofs.Slotting.{stands_resume_point}
use Rattle.aio_body.proofs.laws.slots.a_task_stands_at_another_request.Goals as goal

pub returns : goal.returns
returns g c = stands_resume_point
