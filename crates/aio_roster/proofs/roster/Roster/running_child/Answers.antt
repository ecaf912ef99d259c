use Rattle.std.proofs.Common.{◌<◌, length, ap, sym, subst, arith}
use Rattle.std.proofs.lemmas.Grind.{common_steps}
use Rattle.aio_roster.specs.Rosters.{RosterSeen, running_of, have_room}
use Rattle.aio_roster.proofs.Running.{within_all, kth}
use Rattle.aio_roster.proofs.roster.Roster.running_child.Goals as goal

pub index-number-requires : goal.index-number-requires
index-number-requires c =
    let few : c.args.k < length (running_of c.self.inside.children.items) =
    subst (λ (r : RosterSeen). c.args.k < length (running_of r.children)) (sym c.self.view_is) c.requires in
    omega (arith, few, ap length c.self.invariant.runs)

pub index-child-requires : goal.index-child-requires
index-child-requires c =
    let few : c.args.k < length (running_of c.self.inside.children.items) =
    subst (λ (r : RosterSeen). c.args.k < length (running_of r.children)) (sym c.self.view_is) c.requires in
    let within = within_all c.self.inside.children.items c.self.inside.holders.items c.self.inside.running.items c.self.inside.noted
    c.self.invariant c.args.k c.index-number.result.now c.index-number.ensures few in
    grind (arith, common_steps)

pub returns : goal.returns
returns c =
    let inside = c.self.inside in
    let few : c.args.k < length (running_of inside.children.items) =
    subst (λ (r : RosterSeen). c.args.k < length (running_of r.children)) (sym c.self.view_is) c.requires in
    rw (sym c.self.view_is)
    (kth inside.children.items inside.holders.items inside.running.items inside.noted c.self.invariant c.args.k
    c.index-number.result.now c.index-number.ensures few (have_room inside.children inside.running) c.index-child.result.now c.index-child.ensures)
