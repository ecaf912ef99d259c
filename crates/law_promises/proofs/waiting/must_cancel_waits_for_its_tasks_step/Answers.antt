use Rattle.law_promises.proofs.Apart.{first_must_cancel, woken_by_must_cancel, over_must_cancel}
use Rattle.law_promises.proofs.waiting.must_cancel_waits_for_its_tasks_step.Goals as goal

pub returns-clause-callback : goal.returns-clause-callback
returns-clause-callback g c = λ limit added s handle rest task apart must_cancel. first_must_cancel task limit added handle rest s apart must_cancel

pub returns-clause-woken : goal.returns-clause-woken
returns-clause-woken g c = λ answer s task must_cancel. woken_by_must_cancel task answer s must_cancel

pub returns-clause-over : goal.returns-clause-over
returns-clause-over g c = λ done_before s task must_cancel. over_must_cancel task done_before s must_cancel
