use Rattle.std.proofs.Common.{slice_set, ap, sym, subst, inl}
use Rattle.model_loop.specs.Groups.{enter_group}
use Rattle.aio_group.specs.Held.{Held}
use Rattle.aio_group.specs.Stands.{AllBelong, GroupsStand}
use Rattle.aio_group.proofs.Belonging.{all_belong_set, belongs_as}
use Rattle.aio_group.proofs.Calls.{found, found_stands}
use Rattle.aio_group.proofs.Listing.{get_past}
use Rattle.aio_group.proofs.Numbering.{enter_stands, enter_none}
use Rattle.aio_group.proofs.groups.Groups.enter.Goals as goal

pub returns-clause-belongs : goal.returns-clause-belongs
returns-clause-belongs c =
    let held = c.in-Some.group.now in
    let items = c.self.inside.held.items in
    let f = found c.args.id c.in-Some.group.now c.self.view_is c.in-Some.ensures.item.3.0 c.in-Some.ensures.item.1 in
    let same = c.enter.ensures in
    λ v all.
    let belong : AllBelong v items = subst (λ gs. AllBelong v gs) (sym c.self.view_is) all in
    all_belong_set v items c.args.id held c.enter.new.self f.at belong
    (belongs_as v held c.enter.new.self (ap (λ (h : Held). h.children) same) (inl (ap (λ (h : Held). h.exit_future) same))
    (belong c.args.id held f.at))

pub returns-clause-stands : goal.returns-clause-stands
returns-clause-stands c =
    let held = c.in-Some.group.now in
    let items = c.self.inside.held.items in
    let f = found c.args.id c.in-Some.group.now c.self.view_is c.in-Some.ensures.item.3.0 c.in-Some.ensures.item.1 in
    λ t v l s.
    subst (λ h. GroupsStand t (slice_set items c.args.id h) v (enter_group c.args.id l)) (sym c.enter.ensures)
    (enter_stands t items v l c.args.id held f.at (found_stands f t v l s))

pub returns-in_default-clause-belongs : goal.returns-in_default-clause-belongs
returns-in_default-clause-belongs c = λ v all. subst (λ gs. AllBelong v gs) (sym c.self.view_is) all

pub returns-in_default-clause-stands : goal.returns-in_default-clause-stands
returns-in_default-clause-stands c =
    let items = c.self.inside.held.items in
    λ t v l s.
    enter_none t items v l c.args.id (get_past items c.args.id c.in_default.ensures.item.3)
    (subst (λ gs. GroupsStand t gs v l) (sym c.self.view_is) s)
