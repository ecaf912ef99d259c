use Rattle.std.proofs.Common.{refl}
use Rattle.model_value.specs.declared.action.Action.TheVariants.{HandlerDone}
use Rattle.law_sound.proofs.Registering.{register_step_sound}
use Rattle.law_sound.proofs.Steps.{unfollowed_sound}
use Rattle.law_sound.proofs.callbacks.a_handler_is_waited_for.Goals as goal

pub returns-clause-registered : goal.returns-clause-registered
returns-clause-registered c running told future conn task =
    register_step_sound (HandlerDone conn task) refl refl running told refl future

pub returns-clause-taken : goal.returns-clause-taken
returns-clause-taken c told conn task = unfollowed_sound (HandlerDone conn task) refl (λ id. refl) told
