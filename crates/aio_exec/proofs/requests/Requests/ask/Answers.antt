use Rattle.std.proofs.Common.{◌+◌, ◌<◌, sym, subst}
use Rattle.std.specs.List.{AllByRecursion as Each}
use Rattle.aio_exec.specs.declared.requests.Standing.TheVariants.{Asking}
use Rattle.aio_exec.proofs.Entries.{asks_more}
use Rattle.aio_exec.proofs.Rising.{each_inserted}
use Rattle.aio_exec.proofs.requests.Requests.ask.Goals as goal

pub invariant_of-self-2 : goal.invariant_of-self-2
invariant_of-self-2 c = (
  c.insert.ensures.ordered,
  subst (Each (λ entry. entry.0 < c.self.inside.drawn + 1)) (sym c.in_ok-insert.ensures.entries)
      (each_inserted c.self.inside.drawn Asking c.self.inside.standing.entries c.self.invariant.1),
)

pub returns-clause-after : goal.returns-clause-after
returns-clause-after c =
    asks_more c.self.inside.drawn c.self.inside.standing.entries c.args.self.now c.self.view_is c.self.invariant.1 c.insert.new.self.entries
    c.in_ok-insert.ensures.entries
