use Rattle.std.proofs.Common.{Some, ap, ◌∙◌, subst}
use Rattle.std.specs.Prelude.{is_some, slice_set}
use Rattle.aio_serving.specs.Heads.{Gives}
use Rattle.aio_lanes.specs.Given.{lanes_at, seen_of}
use Rattle.aio_lanes.proofs.Gives.{gives_all, not_past, at_slot, not_none}
use Rattle.aio_lanes.proofs.lanes.LanesHeads.give.Goals as goal

pub unreachable-requires : goal.unreachable-requires
unreachable-requires g c =
    let has = ap (λ cs. is_some (lanes_at cs c.args.child)) c.self.view_is ∙ c.requires.has in
    not_past c.self.inside.children.items c.args.child has c.in_default.ensures.item.3

pub unreachable-requires-in_default-slot : goal.unreachable-requires-in_default-slot
unreachable-requires-in_default-slot g c =
    let has = ap (λ cs. is_some (lanes_at cs c.args.child)) c.self.view_is ∙ c.requires.has in
    not_none c.self.inside.children.items c.args.child c.in-Some.slot.now c.in-Some.ensures.item.1 c.in-Some.ensures.item.3.0 has
    c.in_default-slot.is

pub give-requires : goal.give-requires
give-requires g c = c.requires.lane

pub returns : goal.returns
returns g c =
    let items = c.self.inside.children.items in
    let within = c.in-Some.ensures.item.3.0 in
    let is = at_slot items c.args.child c.in-Some.slot.now c.in-Some.ensures.item.1 within ∙ c.in-Some-slot.is in
    subst (λ cs. Gives c.args.child c.args.pump c.args.command c.give.result (seen_of cs) (seen_of (slice_set items c.args.child (Some c.give.new.self))))
    c.self.view_is
    (gives_all items c.args.child c.args.pump c.args.command c.give.result c.in-Some-slot.lanes c.give.new.self is within c.give.ensures.gives)
