use Rattle.aio_sync.proofs.Entries.{moved_on}
use Rattle.aio_sync.proofs.keys.Keys.wait_on.Goals as goal

pub invariant_of-self : goal.invariant_of-self
invariant_of-self c = (c.move_in.ensures.ordered c.self.invariant.0, c.move_in.ensures.below c.self.inside.drawn c.self.invariant.1)

pub returns : goal.returns
returns c = λ it e.
    moved_on c.args.place c.self.inside.drawn c.self.inside.waiting.entries c.args.self.now c.self.view_is c.move_in.new.waiting.entries c.args.next
    c.move_in.ensures.entries it e
