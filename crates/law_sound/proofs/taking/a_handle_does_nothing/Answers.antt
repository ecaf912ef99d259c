use Rattle.std.proofs.Common.{refl}
use Rattle.model_value.specs.declared.action.Action.TheVariants.{MainDone}
use Rattle.law_sound.proofs.Steps.{dead_sound, unfollowed_sound}
use Rattle.law_sound.proofs.taking.a_handle_does_nothing.Goals as goal

pub returns-clause-dead : goal.returns-clause-dead
returns-clause-dead c = dead_sound

pub returns-clause-main_done : goal.returns-clause-main_done
returns-clause-main_done c = unfollowed_sound MainDone refl (λ id. refl)
