use Rattle.law_promises.proofs.Apart.{thrown}
use Rattle.law_promises.proofs.waiting.a_task_with_must_cancel_is_thrown_a_cancel.Goals as goal

pub returns : goal.returns
returns g c = λ s task input must_cancel. thrown s task input must_cancel
