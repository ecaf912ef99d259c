use Rattle.std.proofs.Common.{◌∙◌}
use Rattle.aio_exec.proofs.Entries.{given_at, on_at}
use Rattle.aio_exec.proofs.requests.Requests.give.Goals as goal

pub invariant_of-self : goal.invariant_of-self
invariant_of-self c = (c.give_in.ensures.ordered c.self.invariant.0, c.give_in.ensures.below c.self.inside.drawn c.self.invariant.1)

pub returns-clause-on : goal.returns-clause-on
returns-clause-on c =
    c.give_in.ensures.on ∙ on_at c.args.place c.self.inside.drawn c.self.inside.standing.entries c.args.self.now c.self.view_is

pub returns-clause-after : goal.returns-clause-after
returns-clause-after c =
    given_at c.args.place c.self.inside.drawn c.self.inside.standing.entries c.args.self.now c.self.view_is c.give_in.new.standing.entries c.args.came
    c.give_in.ensures.none c.give_in.ensures.entries
