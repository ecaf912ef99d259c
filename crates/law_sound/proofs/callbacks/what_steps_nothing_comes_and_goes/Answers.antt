use Rattle.std.proofs.Common.{◌≡◌, ℕ, false, refl, sym}
use Rattle.std.proofs.lemmas.Bool.{false≢true}
use Rattle.model_value.specs.Action.{Action}
use Rattle.model_value.specs.declared.action.Action.TheVariants.{Fires}
use Rattle.model_loop.specs.Deadlines.{fires}
use Rattle.law_groups.specs.Tags.{is_deadline}
use Rattle.law_sound.proofs.Registering.{register_step_sound, soon_step_sound}
use Rattle.law_sound.proofs.Steps.{unfollowed_sound}
use Rattle.law_sound.proofs.callbacks.what_steps_nothing_comes_and_goes.Goals as goal

no_fire : (action : Action) → is_deadline action ≡ false → (id : ℕ) → fires id action ≡ false
no_fire (Fires timeout) h id = absurd (false≢true (sym h))
no_fire _ h id = refl

pub returns-clause-soon : goal.returns-clause-soon
returns-clause-soon c action unfollowed timeless = soon_step_sound action unfollowed timeless

pub returns-clause-registered : goal.returns-clause-registered
returns-clause-registered c action unfollowed timeless called running told = register_step_sound action unfollowed called running told timeless

pub returns-clause-taken : goal.returns-clause-taken
returns-clause-taken c told handle rest l unfollowed timeless first =
    unfollowed_sound handle.action unfollowed (no_fire handle.action timeless) told handle rest l first refl
