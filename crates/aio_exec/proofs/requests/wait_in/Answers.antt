use Rattle.std.proofs.Common.{◌≡◌, ◌<◌, None, sym, subst, ◌∙◌}
use Rattle.std.specs.Map.{lookup}
use Rattle.std.specs.BTreeMap.{is_at}
use Rattle.std.specs.List.{AllByRecursion as Each}
use Rattle.std.specs.Ordering.{nat_cmp}
use Rattle.aio_exec.specs.declared.requests.Standing.TheVariants.{Waiting}
use Rattle.aio_exec.proofs.Rising.{each_replaced, set_none}
use Rattle.aio_exec.proofs.requests.wait_in.Goals as goal

pub returns-in-Some-clause-below : goal.returns-in-Some-clause-below
returns-in-Some-clause-below c = λ n below.
    subst (Each (λ entry. entry.0 < n)) (sym (c.get_mut.follows.holds c.wait_on.new.it).0)
    (each_replaced n (is_at (nat_cmp c.args.place)) c.wait_on.new.it c.args.standing.now.entries below)

pub returns-in_default-clause-entries : goal.returns-in_default-clause-entries
returns-in_default-clause-entries c =
    let es = c.args.standing.now.entries in
    let none : lookup (is_at (nat_cmp c.args.place)) es ≡ None = sym c.in_default.ensures.value in
    let stays : c.get_mut.follows.lender-at-none.entries ≡ es = search in
    stays ∙ sym (set_none (is_at (nat_cmp c.args.place)) es (Waiting c.args.on None) none)
