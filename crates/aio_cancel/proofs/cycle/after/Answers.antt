use Rattle.std.proofs.Common.{false}
use Rattle.algorithm_parts.proofs.WeightLemmas.{weigh_back, weigh_members}
use Rattle.aio_cancel.proofs.cycle.after.Goals as goal

pub returns-in-Waits-clause-falls : goal.returns-in-Waits-clause-falls
returns-in-Waits-clause-falls c = λ p answer seen frames.
    rw c.in-Waits.is (weigh_back c.in-Waits.id c.in-Waits.task false answer frames seen p)

pub returns-in-Members-clause-falls : goal.returns-in-Members-clause-falls
returns-in-Members-clause-falls c = λ p answer seen frames.
    rw c.in-Members.is (weigh_members c.in-Members.id c.in-Members.place c.in-Members.any c.in-Members.any answer frames seen p)
