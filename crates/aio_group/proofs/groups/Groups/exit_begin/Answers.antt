use Rattle.model_loop.specs.Groups as plain
use Rattle.aio_group.proofs.Calls.{found, found_belongs, changed_belong, exit_came, err_came, none_at, none_entered}
use Rattle.aio_group.proofs.groups.Groups.exit_begin.Goals as goal

pub exit_begin-requires-clause-belongs : goal.exit_begin-requires-clause-belongs
exit_begin-requires-clause-belongs c =
    let f = found c.args.id c.in-Some.group.now c.self.view_is c.in-Some.ensures.item.3.0 c.in-Some.ensures.item.1 in
    found_belongs f c.args.parts.now c.requires.belongs

pub returns-clause-belongs : goal.returns-clause-belongs
returns-clause-belongs c =
    let f = found c.args.id c.in-Some.group.now c.self.view_is c.in-Some.ensures.item.3.0 c.in-Some.ensures.item.1 in
    let called = c.exit_begin in
    changed_belong f c.args.parts.now called.new.parts called.new.group c.requires.belongs called.ensures.moves called.ensures.belongs

pub returns-clause-stands : goal.returns-clause-stands
returns-clause-stands c =
    let f = found c.args.id c.in-Some.group.now c.self.view_is c.in-Some.ensures.item.3.0 c.in-Some.ensures.item.1 in
    let called = c.exit_begin in
    exit_came f c.args.parts.now called.new.parts called.new.group called.result (plain.exit_begin c.args.raised) called.ensures.steps

pub returns-clause-err : goal.returns-clause-err
returns-clause-err c =
    let f = found c.args.id c.in-Some.group.now c.self.view_is c.in-Some.ensures.item.3.0 c.in-Some.ensures.item.1 in
    let called = c.exit_begin in
    err_came f c.args.parts.now called.new.parts called.new.group called.result called.ensures.err

pub returns-in_default-clause-belongs : goal.returns-in_default-clause-belongs
returns-in_default-clause-belongs c =
    absurd (none_entered c.args.self.now c.args.id (none_at c.args.id c.self.view_is c.in_default.ensures.item.3) c.requires.entered)

pub returns-in_default-clause-stands : goal.returns-in_default-clause-stands
returns-in_default-clause-stands c =
    absurd (none_entered c.args.self.now c.args.id (none_at c.args.id c.self.view_is c.in_default.ensures.item.3) c.requires.entered)
