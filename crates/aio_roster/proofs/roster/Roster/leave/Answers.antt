use Rattle.std.proofs.Common.{◌<◌, false, length, sym, subst, arith}
use Rattle.std.proofs.lemmas.Grind.{common_steps}
use Rattle.aio_roster.specs.Rosters.{RosterSeen, running_of}
use Rattle.aio_roster.proofs.Running.{within_all, named_by, child_at, kth}
use Rattle.aio_roster.proofs.Lending.{left_one, leaves, has_before}
use Rattle.aio_roster.proofs.Freeing.{set_lent, gives_back}
use Rattle.aio_roster.proofs.roster.Roster.leave.Goals as goal

pub index-child-requires : goal.index-child-requires
index-child-requires c =
    let inside = c.self.inside in
    let few : c.args.k < length (running_of inside.children.items) =
    subst (λ (r : RosterSeen). c.args.k < length (running_of r.children)) (sym c.self.view_is) c.requires.running in
    let within = within_all inside.children.items inside.holders.items inside.running.items inside.noted c.self.invariant c.args.k
    c.remove-number.result c.remove-number.ensures.value few in
    grind (arith, common_steps)

pub index_mut-requires : goal.index_mut-requires
index_mut-requires c =
    let inside = c.self.inside in
    let few : c.args.k < length (running_of inside.children.items) =
    subst (λ (r : RosterSeen). c.args.k < length (running_of r.children)) (sym c.self.view_is) c.requires.running in
    let within = within_all inside.children.items inside.holders.items inside.running.items inside.noted c.self.invariant c.args.k
    c.remove-number.result c.remove-number.ensures.value few in
    grind (arith, common_steps)

pub invariant_of-self : goal.invariant_of-self
invariant_of-self c =
    let inside = c.self.inside in
    let few : c.args.k < length (running_of inside.children.items) =
    subst (λ (r : RosterSeen). c.args.k < length (running_of r.children)) (sym c.self.view_is) c.requires.running in
    let named = named_by inside.children.items inside.holders.items inside.running.items inside.noted c.self.invariant c.args.k
    c.remove-number.result c.remove-number.ensures.value few in
    let at = child_at inside.children.items inside.holders.items inside.running.items inside.noted c.self.invariant c.args.k
    c.remove-number.result c.remove-number.ensures.value few c.index-child.result.now c.index-child.ensures in
    let it = kth inside.children.items inside.holders.items inside.running.items inside.noted c.self.invariant c.args.k
    c.remove-number.result c.remove-number.ensures.value few false c.index-child.result.now c.index-child.ensures in
    rw (c.remove-number.ensures.items)
    (left_one inside.children.items inside.holders.items inside.running.items inside.noted c.self.invariant c.args.k
    c.remove-number.result c.index-child.result.now c.args.stay named at it.goes c.requires.over)

pub returns-clause-left : goal.returns-clause-left
returns-clause-left c =
    let inside = c.self.inside in
    let few : c.args.k < length (running_of inside.children.items) =
    subst (λ (r : RosterSeen). c.args.k < length (running_of r.children)) (sym c.self.view_is) c.requires.running in
    let named = named_by inside.children.items inside.holders.items inside.running.items inside.noted c.self.invariant c.args.k
    c.remove-number.result c.remove-number.ensures.value few in
    let at = child_at inside.children.items inside.holders.items inside.running.items inside.noted c.self.invariant c.args.k
    c.remove-number.result c.remove-number.ensures.value few c.index-child.result.now c.index-child.ensures in
    let it = kth inside.children.items inside.holders.items inside.running.items inside.noted c.self.invariant c.args.k
    c.remove-number.result c.remove-number.ensures.value few false c.index-child.result.now c.index-child.ensures in
    rw (sym c.self.view_is)
    (leaves inside.children.items inside.holders.items inside.running.items inside.noted c.self.invariant c.args.k
    c.remove-number.result c.index-child.result.now c.args.stay named at it.goes c.requires.over)

pub returns-clause-lent : goal.returns-clause-lent
returns-clause-lent c =
    let inside = c.self.inside in
    let few : c.args.k < length (running_of inside.children.items) =
    subst (λ (r : RosterSeen). c.args.k < length (running_of r.children)) (sym c.self.view_is) c.requires.running in
    let named = named_by inside.children.items inside.holders.items inside.running.items inside.noted c.self.invariant c.args.k
    c.remove-number.result c.remove-number.ensures.value few in
    let at = child_at inside.children.items inside.holders.items inside.running.items inside.noted c.self.invariant c.args.k
    c.remove-number.result c.remove-number.ensures.value few c.index-child.result.now c.index-child.ensures in
    let it = kth inside.children.items inside.holders.items inside.running.items inside.noted c.self.invariant c.args.k
    c.remove-number.result c.remove-number.ensures.value few false c.index-child.result.now c.index-child.ensures in
    rw (sym c.self.view_is)
    (set_lent inside.children.items c.remove-number.result c.index-child.result.now (record c.index-child.result.now { stay = c.args.stay }) at
    (λ seat has. has_before c.index-child.result.now c.args.stay seat it.goes has))

pub returns-clause-back : goal.returns-clause-back
returns-clause-back c =
    let inside = c.self.inside in
    let few : c.args.k < length (running_of inside.children.items) =
    subst (λ (r : RosterSeen). c.args.k < length (running_of r.children)) (sym c.self.view_is) c.requires.running in
    let named = named_by inside.children.items inside.holders.items inside.running.items inside.noted c.self.invariant c.args.k
    c.remove-number.result c.remove-number.ensures.value few in
    let at = child_at inside.children.items inside.holders.items inside.running.items inside.noted c.self.invariant c.args.k
    c.remove-number.result c.remove-number.ensures.value few c.index-child.result.now c.index-child.ensures in
    let it = kth inside.children.items inside.holders.items inside.running.items inside.noted c.self.invariant c.args.k
    c.remove-number.result c.remove-number.ensures.value few false c.index-child.result.now c.index-child.ensures in
    rw (sym c.self.view_is)
    (gives_back inside.children.items inside.holders.items inside.running.items inside.noted c.self.invariant c.args.k
    c.remove-number.result c.index-child.result.now c.args.stay named at it.goes)
