use Rattle.std.proofs.Common.{None, ◌∙◌}
use Rattle.std.proofs.Math.Logic.{∥∥₁_elim}
use Rattle.model_loop.specs.Timeouts.{fire}
use Rattle.aio_body.proofs.May.{same_prop}
use Rattle.aio_body.proofs.TimeoutsOn.{fire_groups, leaves_fire, stands_timed, timeouts_of}
use Rattle.aio_serve.proofs.Timing.{fired_there}
use Rattle.aio_serve.proofs.timeouts.fire.Goals as goal

pub fire-requires-clause-idle : goal.fire-requires-clause-idle
fire-requires-clause-idle g c = ∥∥₁_elim c.requires (same_prop c.args.body.now.parts.called None) (λ w. w.1.1.called)

pub fire-requires-clause-live : goal.fire-requires-clause-live
fire-requires-clause-live g c = fired_there c.args.timeout c.args.body.now c.requires

pub returns : goal.returns
returns g c at s h =
    let body = c.args.body.now in
    let id = c.args.timeout in
    record {
      stands =
          stands_timed None at body s c.fire.new.parts c.fire.new.self (fire id s.loop) h.stands
          (c.fire.ensures.after h.stands.name_map s.loop (timeouts_of None at body s h.stands))
          (leaves_fire id s.loop) (fire_groups id s.loop) c.fire.ensures.below c.fire.ensures.step.profile;
      called = c.fire.ensures.step.called ∙ h.called;
      running = c.fire.ensures.step.running ∙ h.running;
    }
