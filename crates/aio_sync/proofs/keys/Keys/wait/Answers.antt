use Rattle.std.proofs.Common.{ℕ, ◌+◌, ◌<◌, sym, subst}
use Rattle.std.specs.List.{AllByRecursion as Each}
use Rattle.aio_sync.proofs.Entries.{waits_more}
use Rattle.aio_sync.proofs.Rising.{each_inserted}
use Rattle.aio_sync.proofs.keys.Keys.wait.Goals as goal

pub invariant_of-self-2 : goal.invariant_of-self-2
invariant_of-self-2 c = (
  c.insert.ensures.ordered,
  subst (Each (λ entry. entry.0 < c.self.inside.drawn + 1)) (sym c.in_ok-insert.ensures.entries)
      (each_inserted c.self.inside.drawn c.args.it c.self.inside.waiting.entries c.self.invariant.1),
)

pub returns-clause-after : goal.returns-clause-after
returns-clause-after c =
    waits_more c.self.inside.drawn c.self.inside.waiting.entries c.args.self.now c.self.view_is c.self.invariant.1 c.args.it c.insert.new.self.entries
    c.in_ok-insert.ensures.entries
