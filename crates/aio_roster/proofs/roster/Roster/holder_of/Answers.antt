use Rattle.std.proofs.Common.{List, sym, ap, ◌∙◌, subst}
use Rattle.model_hub.specs.declared.child.Child.{Child}
use Rattle.aio_roster.specs.Rosters.{have_room}
use Rattle.aio_roster.specs.Holders.{HeldBy, named_in}
use Rattle.aio_roster.proofs.Seated.{unnamed, holds}
use Rattle.aio_roster.proofs.roster.Roster.holder_of.Goals as goal

pub returns-in-None : goal.returns-in-None
returns-in-None c =
    let inside = c.self.inside in
    let none = ap (λ hs. named_in hs c.args.seat) (sym c.as_slice.ensures.value) ∙ sym c.named_in.ensures ∙ c.in-None.is in
    rw (sym c.self.view_is) (unnamed inside.children.items inside.holders.items inside.running.items inside.noted c.self.invariant c.args.seat none)

pub returns-in-Some : goal.returns-in-Some
returns-in-Some c =
    let inside = c.self.inside in
    let some = ap (λ hs. named_in hs c.args.seat) (sym c.as_slice.ensures.value) ∙ sym c.named_in.ensures ∙ c.in-Some.is in
    let held = subst (λ (cs : List Child). HeldBy c.args.seat cs c.in-Some.number c.held_by.result) c.as_slice-in-Some.ensures.value c.held_by.ensures in
    rw (sym c.self.view_is)
    (holds inside.children.items inside.holders.items inside.running.items inside.noted c.self.invariant
    c.args.seat c.in-Some.number some (have_room inside.children inside.running) c.held_by.result held)
