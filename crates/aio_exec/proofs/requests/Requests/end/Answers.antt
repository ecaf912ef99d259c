use Rattle.std.proofs.Common.{◌<◌, sym, subst, ◌∙◌}
use Rattle.std.specs.BTreeMap.{is_at}
use Rattle.std.specs.List.{AllByRecursion as Each}
use Rattle.std.specs.Ordering.{nat_cmp}
use Rattle.aio_exec.proofs.Entries.{came_at, ended}
use Rattle.aio_exec.proofs.Rising.{each_removed}
use Rattle.aio_exec.proofs.requests.Requests.end.Goals as goal

pub invariant_of-self : goal.invariant_of-self
invariant_of-self c = (
  c.remove-it.ensures.ordered,
  subst (Each (λ entry. entry.0 < c.self.inside.drawn)) (sym c.remove-it.ensures.entries)
      (each_removed c.self.inside.drawn (is_at (nat_cmp c.args.place)) c.self.inside.standing.entries c.self.invariant.1),
)

pub returns-clause-came : goal.returns-clause-came
returns-clause-came c =
    c.came_in.ensures
    ∙ came_at c.args.place c.self.inside.drawn c.self.inside.standing.entries c.args.self.now c.self.view_is c.remove-it.result c.remove-it.ensures.value

pub returns-clause-after : goal.returns-clause-after
returns-clause-after c =
    ended c.args.place c.self.inside.drawn c.self.inside.standing.entries c.args.self.now c.self.view_is c.remove-it.new.self.entries
    c.remove-it.ensures.entries
