use Rattle.aio_postbox.proofs.Counting.{taken_counted}
use Rattle.aio_postbox.proofs.postbox.Postbox.take.Goals as goal

pub invariant_of-self : goal.invariant_of-self
invariant_of-self g c =
    taken_counted c.self.inside.counts.items c.self.inside.taker c.take.new.taker c.in-Some.post c.self.invariant c.in-Some.ensures.post
    c.in-Some.ensures.number c.take.ensures.together
