use Rattle.std.proofs.Common.{sym}
use Rattle.aio_group.proofs.Going.{then_moves}
use Rattle.aio_group.proofs.Stepping.{blame_stays, blame_steps}
use Rattle.aio_group.proofs.children.blame.Goals as goal

pub returns-then-is_blamed-clause-steps : goal.returns-then-is_blamed-clause-steps
returns-then-is_blamed-clause-steps c = blame_stays c.args.group.now c.args.parts.now (sym c.if-is_blamed.ensures)

pub returns-clause-moves : goal.returns-clause-moves
returns-clause-moves c =
    then_moves c.args.parts.now c.abort.new.parts c.request_parent.new.parts c.abort.ensures.moves c.request_parent.ensures.moves

pub returns-clause-steps : goal.returns-clause-steps
returns-clause-steps c =
    blame_steps c.args.group.now c.abort.new.group c.request_parent.new.group c.args.parts.now c.abort.new.parts
    c.request_parent.new.parts (sym c.if-is_blamed.ensures) c.abort.ensures.steps c.request_parent.ensures.steps
