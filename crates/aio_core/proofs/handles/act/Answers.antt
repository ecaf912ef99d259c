use Rattle.aio_core.proofs.Acting.{acts_stepping, acts_without, steps_may}
use Rattle.aio_core.proofs.handles.act.Goals as goal

pub step-requires-clause-called : goal.step-requires-clause-called
step-requires-clause-called g c =
    steps_may c.args.body.now c.args.action.now c.in-Ok-Some.task c.in-Ok-Some.input (rw c.in-Ok-Some.field-0-is at c.in-Ok-Some.ensures) c.requires

pub step-requires-clause-made : goal.step-requires-clause-made
step-requires-clause-made g c = (rw c.in-Ok-Some.field-0-is at c.in-Ok-Some.ensures).0

pub returns-in-Ok-Some : goal.returns-in-Ok-Some
returns-in-Ok-Some g c =
    acts_stepping g.X.Extra.added g.W.Wire.outside c.args.action.now c.args.body.now c.in-Ok-Some.task c.in-Ok-Some.input
    (rw c.in-Ok-Some.field-0-is at c.in-Ok-Some.ensures) c.step.new.body c.args.wire.now c.step.new.wire c.step.result c.step.ensures

pub call_back-requires-clause-idle : goal.call_back-requires-clause-idle
call_back-requires-clause-idle g c = rw c.in-Ok-None.field-0-is at c.in-Ok-None.ensures

pub returns-in-Ok-None : goal.returns-in-Ok-None
returns-in-Ok-None g c = c.call_back.ensures

pub returns-in-Err : goal.returns-in-Err
returns-in-Err g c =
    acts_without g.X.Extra.added g.W.Wire.outside c.args.action.now c.args.body.now _ c.args.wire.now
