use Rattle.law_promises.proofs.Asking.{raised_one}
use Rattle.law_promises.proofs.counts.a_request_raises_its_task.Goals as goal

pub returns : goal.returns
returns c = λ p task owns living. raised_one p owns task living
