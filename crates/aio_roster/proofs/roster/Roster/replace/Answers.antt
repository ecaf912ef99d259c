use Rattle.std.proofs.Common.{sym, subst, arith}
use Rattle.std.specs.Prelude.{slice_set}
use Rattle.std.proofs.lemmas.Grind.{common_steps}
use Rattle.std.proofs.lemmas.Option.{slice_get_within}
use Rattle.aio_roster.specs.Rosters.{RosterSeen}
use Rattle.aio_roster.specs.Changes.{Replaces, LeavesFree}
use Rattle.aio_roster.proofs.Seated.{changed_at}
use Rattle.aio_roster.proofs.Freeing.{same_lent}
use Rattle.aio_roster.proofs.roster.Roster.replace.Goals as goal

pub index_mut-requires : goal.index_mut-requires
index_mut-requires c =
    let it = subst (λ (r : RosterSeen). Replaces c.args.child r) (sym c.self.view_is) c.requires in
    let within = slice_get_within c.self.inside.children.items c.args.child.number it.old it.at in
    grind (arith, common_steps)

pub invariant_of-self : goal.invariant_of-self
invariant_of-self c =
    let inside = c.self.inside in
    let it = subst (λ (r : RosterSeen). Replaces c.args.child r) (sym c.self.view_is) c.requires in
    changed_at inside.children.items inside.holders.items inside.running.items inside.noted c.self.invariant c.args.child.number it.old
    c.args.child it.at it.same inside.noted (omega arith) it.short it.modest

pub returns-clause-lent : goal.returns-clause-lent
returns-clause-lent c =
    let it = subst (λ (r : RosterSeen). Replaces c.args.child r) (sym c.self.view_is) c.requires in
    subst (λ (r : RosterSeen). LeavesFree r.children (slice_set c.self.inside.children.items c.args.child.number c.args.child)) c.self.view_is
    (same_lent c.self.inside.children.items c.args.child.number it.old c.args.child it.at it.same)

pub returns-clause-numbered : goal.returns-clause-numbered
returns-clause-numbered c =
    let inside = c.self.inside in
    let it = subst (λ (r : RosterSeen). Replaces c.args.child r) (sym c.self.view_is) c.requires in
    (changed_at inside.children.items inside.holders.items inside.running.items inside.noted c.self.invariant c.args.child.number it.old
    c.args.child it.at it.same inside.noted (omega arith) it.short it.modest).numbered
