use Rattle.std.proofs.Common.{◌<◌, sym, subst}
use Rattle.std.specs.BTreeMap.{is_at}
use Rattle.std.specs.List.{AllByRecursion as Each}
use Rattle.std.specs.Ordering.{nat_cmp}
use Rattle.aio_exec.proofs.Rising.{each_replaced}
use Rattle.aio_exec.proofs.requests.give_in.Goals as goal

pub returns-in-Some-clause-below : goal.returns-in-Some-clause-below
returns-in-Some-clause-below c = λ n below.
    subst (Each (λ entry. entry.0 < n)) (sym (c.get_mut.follows.holds c.give.new.it).0)
    (each_replaced n (is_at (nat_cmp c.args.place)) c.give.new.it c.args.standing.now.entries below)
