use Rattle.std.proofs.Common.{None, Some, ◌∙◌}
use Rattle.aio_exec.proofs.Entries.{found_at}
use Rattle.aio_exec.proofs.requests.Requests.find.Goals as goal

pub returns-in-Some : goal.returns-in-Some
returns-in-Some c =
    c.found_in.ensures
    ∙ found_at c.args.place c.self.inside.drawn c.self.inside.standing.entries c.args.self.now c.self.view_is (Some c.in-Some.it.now) c.in-Some.ensures.value

pub returns-in-None : goal.returns-in-None
returns-in-None c = found_at c.args.place c.self.inside.drawn c.self.inside.standing.entries c.args.self.now c.self.view_is None c.in-None.ensures.value
