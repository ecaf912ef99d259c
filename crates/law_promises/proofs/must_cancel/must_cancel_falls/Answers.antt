use Rattle.law_promises.proofs.Falling.{begin_falls, finish_falls, suspend_falls, uncancel_falls}
use Rattle.law_promises.proofs.must_cancel.must_cancel_falls.Goals as goal

pub returns-clause-begins : goal.returns-clause-begins
returns-clause-begins c = begin_falls

pub returns-clause-returns : goal.returns-clause-returns
returns-clause-returns c = finish_falls

pub returns-clause-waits : goal.returns-clause-waits
returns-clause-waits c = suspend_falls

pub returns-clause-taken_back : goal.returns-clause-taken_back
returns-clause-taken_back c = uncancel_falls
