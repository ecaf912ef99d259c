use Rattle.std.proofs.Common.{◌+◌, ◌<◌, sym, subst}
use Rattle.std.specs.List.{AllByRecursion as Each}
use Rattle.aio_exec.proofs.Entries.{accepts_more}
use Rattle.aio_exec.proofs.Rising.{each_inserted}
use Rattle.aio_exec.proofs.jobs.Jobs.accept.Goals as goal

pub invariant_of-self-2 : goal.invariant_of-self-2
invariant_of-self-2 c = (
  c.insert.ensures.ordered,
  subst (Each (λ entry. entry.0 < c.self.inside.accepted + 1)) (sym c.in_ok-insert.ensures.entries)
      (each_inserted c.self.inside.accepted c.args.place c.self.inside.going.entries c.self.invariant.1),
)

pub returns : goal.returns
returns c =
    accepts_more c.self.inside.accepted c.self.inside.going.entries c.args.self.now c.self.view_is c.self.invariant.1 c.args.place
    c.insert.new.self.entries c.in_ok-insert.ensures.entries
