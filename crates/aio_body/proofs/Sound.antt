-- What sound states say of the step that goes on, and which steps keep them sound.
use Rattle.std.proofs.Common.{◌≡◌, ℕ, ◌+◌, ◌<◌, true, false, List, ◌∷◌, Ok, Err, Some, None, length, refl, subst, slice_get}
use Rattle.std.proofs.lemmas.Bool.{eq-eqb}
use Rattle.model_value.specs.Request.{Request}
use Rattle.model_value.specs.Value.{Exc, Value}
use Rattle.model_value.specs.declared.request.Request.TheVariants.{Await}
use Rattle.model_says.specs.Endings.{Asks, Raises as Raised, Returns}
use Rattle.model_says.specs.Says.{step_limit}
use Rattle.model_loop.specs.Futures.{future_outcome, is_pending}
use Rattle.model_loop.specs.Owning.{is_plain}
use Rattle.model_loop.specs.Parts.{Handle}
use Rattle.model_loop.specs.Tasks.{finish, lives}
use Rattle.model_machine.specs.Arguments.{as_awaited}
use Rattle.model_machine.specs.Extra.{Extra}
use Rattle.model_machine.specs.Replies.{reply}
use Rattle.model_machine.specs.Sound.{IsStateSound}
use Rattle.model_machine.specs.State.{State, generator_of, unbooked_in}
use Rattle.model_machine.specs.Step.{most_answers, says_of, serve}
use Rattle.model_machine.specs.Turn.{ran}
use Rattle.law_replies.specs.InStep.{IsStepSound, LeavesStateSound, RepliesInStep}
use Rattle.law_runs.proofs.Bounded.{bound_is_enough}
use Rattle.law_replies.proofs.Answering.{plain_futures}
use Rattle.law_replies.proofs.Replying.{fits_in, reply_in}
use Rattle.law_runs.proofs.Callbacks.{callback_in}
use Rattle.law_runs.proofs.Calls.{allowed_keeps}
use Rattle.law_runs.proofs.Finishing.{raises_sound, returns_sound}
use Rattle.law_replies.specs.Added.{KeepsSound}
use Rattle.aio_extra.specs.Added.{Added}

-- what is added keeps states sound
pub extra_sound : {X : Type 0} (a : Added X) → KeepsSound a.meaning
extra_sound a = allowed_keeps a.meaning a.allowed

pub awaited_pends : {S : Type 0} (added : Extra S) → (task : ℕ) (x : Value) (s : State S) → IsStepSound added task s
    → says_of step_limit added task s ≡ Asks (Await x)
    → (on : ℕ) → as_awaited s x ≡ Some on → future_outcome s.loop.parts on ≡ None → is_pending s.loop.parts on ≡ true
awaited_pends added task x s sound says = fits_in added task s sound (Await x) says refl

pub plain_named : {S : Type 0} (added : Extra S) → (task : ℕ) (s : State S) → IsStepSound added task s
    → (place id : ℕ) → slice_get s.futures place ≡ Some id → is_plain s.loop.parts id ≡ true
plain_named added task s sound = plain_futures s sound.others.futures

pub requests_sound : {S : Type 0} (added : Extra S) → KeepsSound added → (task : ℕ) (asked : Request) (s : State S) → IsStepSound added task s
    → says_of step_limit added task s ≡ Asks asked
    → RepliesInStep added false task (reply added task asked s)
requests_sound added keeps task asked s sound says = reply_in added keeps task s sound asked says

pub returned_sound : {S : Type 0} (added : Extra S) → (task : ℕ) (value : Value) (s : State S) → IsStepSound added task s
    → says_of step_limit added task s ≡ Returns value
    → IsStateSound added (unbooked_in (finish task (Ok value)) s)
returned_sound added task value s sound says = returns_sound added task s sound value says

pub raised_sound : {S : Type 0} (added : Extra S) → (task : ℕ) (fault : Exc) (s : State S) → IsStepSound added task s
    → says_of step_limit added task s ≡ Raised fault
    → IsStateSound added (unbooked_in (finish task (Err fault)) s)
raised_sound added task fault s sound says = raises_sound added task s sound fault says

-- the task that runs lives
pub runs_living : {S : Type 0} (added : Extra S) → (task : ℕ) (s : State S) → IsStepSound added task s → lives s.loop.parts task ≡ true
runs_living added task s sound = sound.others.loop.parts.runs task (eq-eqb task task refl)

pub ends_by_itself : {S : Type 0} (added : Extra S) → (task more : ℕ) (s : State S) → task < length s.generators
    → serve step_limit added (most_answers step_limit (generator_of task s).tape + more) task s
    ≡ serve step_limit added (most_answers step_limit (generator_of task s).tape) task s
ends_by_itself added task more s within = bound_is_enough step_limit added task more s within

-- a dead handle is passed over
pub dead_sound : {S : Type 0} (added : Extra S) → KeepsSound added → (s : State S) (handle : Handle) (rest : List Handle) → IsStateSound added s
    → s.loop.parts.pending ≡ handle ∷ rest
    → handle.dead ≡ true → IsStateSound added (unbooked_in (λ p. record p { pending = rest }) s)
dead_sound added keeps s handle rest sound pending dead =
    subst (λ d. LeavesStateSound added (ran step_limit added d handle.action (unbooked_in (λ p. record p { pending = rest }) s))) dead
    (callback_in added keeps s handle rest pending sound)
