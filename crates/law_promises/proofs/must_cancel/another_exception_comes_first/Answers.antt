use Rattle.law_promises.proofs.Falling.{failure_first}
use Rattle.law_promises.proofs.must_cancel.another_exception_comes_first.Goals as goal

pub returns : goal.returns
returns c = failure_first
