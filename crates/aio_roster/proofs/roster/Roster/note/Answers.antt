use Rattle.std.proofs.Common.{◌+◌, map, sym, ap, ◌∙◌, subst, arith}
use Rattle.std.proofs.lemmas.Grind.{common_steps}
use Rattle.std.proofs.lemmas.Option.{slice_get_within}
use Rattle.model_hub.specs.Posts.{note, note_by, told_by, items_of, items_from}
use Rattle.aio_roster.specs.Rosters.{RosterSeen, IsFree}
use Rattle.aio_roster.specs.Holders.{HasSeat}
use Rattle.aio_roster.specs.Changes.{MayBeLent}
use Rattle.aio_roster.proofs.Freeing.{same_lent}
use Rattle.aio_roster.proofs.Seated.{free_notes, free_tells, one_notes, one_tells, changed_at}
use Rattle.aio_roster.proofs.roster.Roster.note.Goals as goal

pub returns-in_default-clause-children : goal.returns-in_default-clause-children
returns-in_default-clause-children c =
    let free : IsFree c.args.post.seat c.args.self.now.children = rw c.in_default.is at c.holder_of.ensures in
    ap (λ (r : RosterSeen). r.children) c.self.view_is ∙ sym (free_notes c.args.post c.args.self.now.children free)

pub returns-in_default-clause-tells : goal.returns-in_default-clause-tells
returns-in_default-clause-tells c =
    let free : IsFree c.args.post.seat c.args.self.now.children = rw c.in_default.is at c.holder_of.ensures in
    sym (free_tells c.args.post c.args.self.now.children free)

pub index_mut-requires : goal.index_mut-requires
index_mut-requires c =
    let has = subst (λ (r : RosterSeen). HasSeat c.args.post.seat r c.in-Some.holder) (sym c.self.view_is) c.in-Some.ensures in
    let within = slice_get_within c.self.inside.children.items c.in-Some.holder.number c.in-Some.holder.child has.at in
    grind (arith, common_steps)

pub invariant_of-self-2 : goal.invariant_of-self-2
invariant_of-self-2 c =
    let inside = c.self.inside in
    let has = subst (λ (r : RosterSeen). HasSeat c.args.post.seat r c.in-Some.holder) (sym c.self.view_is) c.in-Some.ensures in
    changed_at inside.children.items inside.holders.items inside.running.items inside.noted c.self.invariant c.in-Some.holder.number
    c.in-Some.holder.child c.note_from.result has.at c.note_from.ensures.same (inside.noted + 1) (omega arith)
    (c.note_from.ensures.short inside.noted has.short) (c.note_from.ensures.modest has.modest)

pub returns-clause-children : goal.returns-clause-children
returns-clause-children c =
    let has = subst (λ (r : RosterSeen). HasSeat c.args.post.seat r c.in-Some.holder) (sym c.self.view_is) c.in-Some.ensures in
    let is = ap (λ from. note_by from c.args.post.kind c.in-Some.holder.child) has.has ∙ sym c.note_from.ensures.is in
    sym (one_notes c.args.post c.self.inside.children.items c.in-Some.holder.number c.in-Some.holder.child c.note_from.result has.at has.only is)
    ∙ ap (λ (r : RosterSeen). map (note c.args.post) r.children) c.self.view_is

pub returns-clause-tells : goal.returns-clause-tells
returns-clause-tells c =
    let holder = c.in-Some.holder in
    let has = c.in-Some.ensures in
    c.item_of-item.ensures ∙ ap (items_of holder.number) c.told_by.ensures
    ∙ ap (λ n. items_of n (told_by holder.pump c.args.post.kind)) (sym has.numbered)
    ∙ ap (λ from. items_from holder.child.number c.args.post.kind from) (sym has.has)
    ∙ sym (one_tells c.args.post c.args.self.now.children holder.number holder.child has.at has.only)

pub returns-in_default-clause-lent : goal.returns-in_default-clause-lent
returns-in_default-clause-lent c seats lent = subst (λ (r : RosterSeen). MayBeLent r.children seats) (sym c.self.view_is) lent

pub returns-clause-lent : goal.returns-clause-lent
returns-clause-lent c =
    let has = subst (λ (r : RosterSeen). HasSeat c.args.post.seat r c.in-Some.holder) (sym c.self.view_is) c.in-Some.ensures in
    rw (sym c.self.view_is)
    (same_lent c.self.inside.children.items c.in-Some.holder.number c.in-Some.holder.child c.note_from.result has.at
    c.note_from.ensures.same)
