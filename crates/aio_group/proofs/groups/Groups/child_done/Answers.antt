use Rattle.model_loop.specs.Groups as plain
use Rattle.aio_group.proofs.Calls.{found, found_belongs, changed_belong, changed_came, none_at, none_child}
use Rattle.aio_group.proofs.groups.Groups.child_done.Goals as goal

pub child_done-requires-clause-belongs : goal.child_done-requires-clause-belongs
child_done-requires-clause-belongs c =
    let f = found c.args.id c.in-Some.group.now c.self.view_is c.in-Some.ensures.item.3.0 c.in-Some.ensures.item.1 in
    found_belongs f c.args.parts.now c.requires.belongs

pub returns-clause-belongs : goal.returns-clause-belongs
returns-clause-belongs c =
    let f = found c.args.id c.in-Some.group.now c.self.view_is c.in-Some.ensures.item.3.0 c.in-Some.ensures.item.1 in
    let called = c.child_done in
    changed_belong f c.args.parts.now called.new.parts called.new.group c.requires.belongs called.ensures.moves called.ensures.belongs

pub returns-clause-stands : goal.returns-clause-stands
returns-clause-stands c =
    let f = found c.args.id c.in-Some.group.now c.self.view_is c.in-Some.ensures.item.3.0 c.in-Some.ensures.item.1 in
    let called = c.child_done in
    changed_came f c.args.parts.now called.new.parts called.new.group (λ id l. plain.child_done id c.args.child l) called.ensures.steps

pub returns-in_default-clause-belongs : goal.returns-in_default-clause-belongs
returns-in_default-clause-belongs c =
    absurd (none_child c.args.self.now c.args.id c.args.child (none_at c.args.id c.self.view_is c.in_default.ensures.item.3) c.requires.child)

pub returns-in_default-clause-stands : goal.returns-in_default-clause-stands
returns-in_default-clause-stands c =
    absurd (none_child c.args.self.now c.args.id c.args.child (none_at c.args.id c.self.view_is c.in_default.ensures.item.3) c.requires.child)
