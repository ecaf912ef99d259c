use Rattle.std.proofs.Common.{◌≡◌, ℕ, ◌++◌, ◌∷◌, [], None, slice_set, ap, sym, subst, ◌∙◌}
use Rattle.std.specs.Option.{unwrap_or}
use Rattle.model_loop.specs.Groups as plain
use Rattle.model_loop.specs.Tasks.{next_task}
use Rattle.aio_group.specs.declared.created.Created.TheVariants as created
use Rattle.aio_group.specs.Answers.{created_of}
use Rattle.aio_group.specs.Held.{shown}
use Rattle.aio_group.specs.Stands.{AllBelong, GroupsStand, Came}
use Rattle.aio_group.proofs.Calls.{on_err, found, found_belongs, found_stands, kept_same, changed_belong, not_entered_came, not_refused, refused_came}
use Rattle.aio_group.proofs.Going.{same_moves}
use Rattle.aio_group.proofs.Listing.{get_past, set-same}
use Rattle.aio_group.proofs.Numbering.{created_stands}
use Rattle.aio_group.proofs.groups.Groups.create.Goals as goal

pub returns-in_default-clause-belongs : goal.returns-in_default-clause-belongs
returns-in_default-clause-belongs c = subst (λ gs. AllBelong c.args.parts.now gs) (sym c.self.view_is) c.requires.belongs

pub returns-in_default-clause-moves : goal.returns-in_default-clause-moves
returns-in_default-clause-moves c = same_moves c.args.parts.now

pub returns-in_default-clause-stands : goal.returns-in_default-clause-stands
returns-in_default-clause-stands c =
    let items = c.self.inside.held.items in
    λ t l s.
    not_entered_came t items c.args.parts.now l c.args.id (get_past items c.args.id c.in_default.ensures.item.3)
    (subst (λ gs. GroupsStand t gs c.args.parts.now l) (sym c.self.view_is) s)

pub returns-in-Some-refuses-clause-belongs : goal.returns-in-Some-refuses-clause-belongs
returns-in-Some-refuses-clause-belongs c =
    let f = found c.args.id c.in-Some.group.now c.self.view_is c.in-Some.ensures.item.3.0 c.in-Some.ensures.item.1 in
    subst (λ gs. AllBelong c.args.parts.now gs) (sym (kept_same f)) c.requires.belongs

pub returns-in-Some-refuses-clause-moves : goal.returns-in-Some-refuses-clause-moves
returns-in-Some-refuses-clause-moves c = same_moves c.args.parts.now

pub returns-in-Some-refuses-clause-stands : goal.returns-in-Some-refuses-clause-stands
returns-in-Some-refuses-clause-stands c =
    let items = c.self.inside.held.items in
    let held = c.in-Some.group.now in
    let v = c.args.parts.now in
    let f = found c.args.id c.in-Some.group.now c.self.view_is c.in-Some.ensures.item.3.0 c.in-Some.ensures.item.1 in
    λ t l s.
    subst (λ gs. Came t l gs v (plain.create c.args.id l)
    × (c.in-Some-refuses.refused ≡ created_of (plain.refusal (plain.group_of l c.args.id)) (next_task l.parts)))
    (sym (set-same items c.args.id held f.at))
    (refused_came t items v l c.args.id held c.in-Some-refuses.refused f.at
    (λ task. c.refuses.ensures task ∙ ap (λ o. unwrap_or o (created.Task task)) c.in-Some-refuses.is)
    (found_stands f t v l s))

pub create-requires-clause-belongs : goal.create-requires-clause-belongs
create-requires-clause-belongs c =
    let f = found c.args.id c.in-Some.group.now c.self.view_is c.in-Some.ensures.item.3.0 c.in-Some.ensures.item.1 in
    found_belongs f c.args.parts.now c.requires.belongs

pub returns-in_err-task-clause-belongs : goal.returns-in_err-task-clause-belongs
returns-in_err-task-clause-belongs c =
    let f = found c.args.id c.in-Some.group.now c.self.view_is c.in-Some.ensures.item.3.0 c.in-Some.ensures.item.1 in
    let called = c.create in
    changed_belong f c.args.parts.now called.new.parts called.new.group c.requires.belongs called.ensures.moves called.ensures.belongs

pub returns-in_err-task-clause-err : goal.returns-in_err-task-clause-err
returns-in_err-task-clause-err c =
    let f = found c.args.id c.in-Some.group.now c.self.view_is c.in-Some.ensures.item.3.0 c.in-Some.ensures.item.1 in
    let e = c.in_err-task.ensures.err in
    on_err c.from_residual.result (ap (λ h. slice_set c.self.inside.held.items c.args.id h) e.0 ∙ kept_same f, e.1)

pub returns-clause-belongs : goal.returns-clause-belongs
returns-clause-belongs c =
    let f = found c.args.id c.in-Some.group.now c.self.view_is c.in-Some.ensures.item.3.0 c.in-Some.ensures.item.1 in
    let called = c.create in
    changed_belong f c.args.parts.now called.new.parts called.new.group c.requires.belongs called.ensures.moves called.ensures.belongs

pub returns-clause-stands : goal.returns-clause-stands
returns-clause-stands c =
    let items = c.self.inside.held.items in
    let held = c.in-Some.group.now in
    let v = c.args.parts.now in
    let f = found c.args.id c.in-Some.group.now c.self.view_is c.in-Some.ensures.item.3.0 c.in-Some.ensures.item.1 in
    let is = c.in_ok-task.ensures in
    let free : plain.refusal (shown held) ≡ None =
    not_refused (plain.refusal (shown held)) (λ task. c.refuses.ensures task ∙ ap (λ o. unwrap_or o (created.Task task)) c.in_default-refuses.is) in
    λ t l s.
    let stands = found_stands f t v l s in
    created_stands t items v c.create.new.parts l c.args.id c.in_ok-task.task held c.create.new.group f.at stands free is.number
    (is.same ∙ ap (λ (n : ℕ). record held { children = held.children ++ n ∷ [] }) (sym is.number)) (is.kept t l.parts stands.keeps)
