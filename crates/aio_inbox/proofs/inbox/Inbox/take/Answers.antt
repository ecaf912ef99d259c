use Rattle.std.proofs.Common.{◌∙◌}
use Rattle.aio_inbox.proofs.Owed.{may_take, may_count}
use Rattle.aio_inbox.proofs.Ends.{took}
use Rattle.aio_inbox.proofs.inbox.Inbox.take.Goals as goal

pub pop_as-requires-clause-rule : goal.pop_as-requires-clause-rule
pop_as-requires-clause-rule g c = may_take _ _ _ c.taker.invariant.1.0

pub another-requires-clause-rule : goal.another-requires-clause-rule
another-requires-clause-rule g c = may_count _ _ _ (c.in-None.ensures.rule.0 ∙ c.taker.invariant.1.0)

pub invariant_of-taker : goal.invariant_of-taker
invariant_of-taker g c =
    let is = c.taker.invariant in
    let same = c.pop_as.ensures.queue in
    ((same.0 ∙ is.0.0, same.2 ∙ is.0.1), (took _ _ _ is.1 c.in-Some.ensures.rule).1)

pub returns-in-Some-clause-begins : goal.returns-in-Some-clause-begins
returns-in-Some-clause-begins g c = (took _ _ _ c.taker.invariant.1 c.in-Some.ensures.rule).1.1

pub returns-in-Some-clause-ends : goal.returns-in-Some-clause-ends
returns-in-Some-clause-ends g c = (took _ _ _ c.taker.invariant.1 c.in-Some.ensures.rule).1.2
