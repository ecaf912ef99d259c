use Rattle.std.proofs.Common.{◌<◌, sym, subst}
use Rattle.std.specs.BTreeMap.{is_at}
use Rattle.std.specs.List.{AllByRecursion as Each}
use Rattle.std.specs.Ordering.{nat_cmp}
use Rattle.aio_exec.proofs.Rising.{each_removed}
use Rattle.aio_exec.proofs.jobs.Jobs.end.Goals as goal

pub invariant_of-self : goal.invariant_of-self
invariant_of-self c = (
  c.remove.ensures.ordered,
  subst (Each (λ entry. entry.0 < c.self.inside.accepted)) (sym c.remove.ensures.entries)
      (each_removed c.self.inside.accepted (is_at (nat_cmp c.args.number)) c.self.inside.going.entries c.self.invariant.1),
)
