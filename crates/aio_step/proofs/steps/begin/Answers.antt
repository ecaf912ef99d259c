use Rattle.std.proofs.Common.{ap, sym, subst, ◌∙◌}
use Rattle.aio_task.specs.View.{View}
use Rattle.aio_body.specs.declared.run_state.RunState.{RunState}
use Rattle.aio_step.specs.Stepping.{HasBegun}
use Rattle.aio_step.proofs.Begun.{begins_as}
use Rattle.aio_step.proofs.Ready.{begin_alone, begin_called, begin_held, begin_no_task, begin_there}
use Rattle.aio_step.proofs.steps.begin.Goals as goal

pub begin_step-input-requires-clause-called : goal.begin_step-input-requires-clause-called
begin_step-input-requires-clause-called g c = begin_called c.args.task c.args.body.now c.requires

pub begin_step-input-requires-clause-alone : goal.begin_step-input-requires-clause-alone
begin_step-input-requires-clause-alone g c = begin_alone c.args.task c.args.body.now c.requires

pub take-coroutine-requires : goal.take-coroutine-requires
take-coroutine-requires g c = begin_there c.args.task c.args.body.now c.requires

pub give_up-requires-clause-idle : goal.give_up-requires-clause-idle
give_up-requires-clause-idle g c =
    ap (λ (x : RunState _). x.parts.called) c.take-coroutine.ensures.frame ∙ ap (λ (x : View). x.called) c.begin_step-input.ensures.frame

pub give_up-requires-clause-no_task : goal.give_up-requires-clause-no_task
give_up-requires-clause-no_task g c =
    begin_no_task c.args.task c.args.body.now c.requires c.take-coroutine.new.self.parts
    (ap (λ (x : RunState _). x.parts.futures) c.take-coroutine.ensures.frame ∙ ap (λ (x : View). x.futures) c.begin_step-input.ensures.frame)
    c.take-coroutine.result c.take-coroutine.ensures.slot

pub unreachable-requires : goal.unreachable-requires
unreachable-requires g c =
    begin_held c.args.task c.args.body.now c.requires c.take-coroutine.result c.take-coroutine.ensures.slot c.in_default.is

pub returns : goal.returns
returns g c context s h =
    subst (λ x. HasBegun c.args.task c.args.input context s
    (record { coroutine = c.in-Some.coroutine; resume_point = c.take-coroutine.result.resume_point; input = x }) c.give_up.new.self)
    (sym c.begin_step-input.ensures.input)
    (begins_as c.args.task c.args.input context c.args.body.now s h c.begin_step-input.new.self
    c.begin_step-input.ensures.after c.begin_step-input.ensures.frame
    c.take-coroutine.result c.in-Some.coroutine c.take-coroutine.ensures.slot c.in-Some.is c.take-coroutine.new.self c.give_up.new.self
    c.take-coroutine.ensures.frame c.take-coroutine.ensures.slots c.give_up.ensures)
