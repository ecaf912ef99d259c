use Rattle.aio_exec.proofs.Entries.{waits_now}
use Rattle.aio_exec.proofs.requests.Requests.wait.Goals as goal

pub invariant_of-self : goal.invariant_of-self
invariant_of-self c = (c.wait_in.ensures.ordered c.self.invariant.0, c.wait_in.ensures.below c.self.inside.drawn c.self.invariant.1)

pub returns : goal.returns
returns c =
    waits_now c.args.place c.self.inside.drawn c.self.inside.standing.entries c.args.self.now c.self.view_is c.wait_in.new.standing.entries c.args.on
    c.wait_in.ensures.entries
