-- What is added to the loop's own requests keeps states sound: the premises under which a run does.
use Rattle.std.specs.Prelude.{◌≡◌, ℕ, ℤ, true, false, List}
use Rattle.model_value.specs.Input.{Input}
use Rattle.model_value.specs.Value.{Value}
use Rattle.model_value.specs.declared.request.Request.TheVariants as request
use Rattle.model_machine.specs.Extra.{Extra, called}
use Rattle.model_machine.specs.Replies.{reply, woken}
use Rattle.model_machine.specs.Sound.{IsStateSound, ids_of, sends_made}
use Rattle.model_machine.specs.State.{Asked, Serving, State}
use Rattle.law_replies.specs.InStep.{IsAsked, IsStepSound, RepliesInStep}

pub record KeepsSound {S : Type 0} (added : Extra S) : Type 0 where
  -- a task's request, inside its step
  pub ask : (task : ℕ) (code arguments : Value) (s : State S) → IsStepSound added task s
      → IsAsked added task Asked (request.Extra code arguments) s
      → RepliesInStep added false task (reply added task (request.Extra code arguments) s)
  -- what the wait of such a request came to, as a step begins
  pub wake : (task key : ℕ) (code arguments : Value) (input : Input) (s : State S)
      → sends_made (ids_of s) input ≡ true
      → IsAsked added task (Serving key) (request.Extra code arguments) s
      → RepliesInStep added true task (woken added task key input s)
  -- its own handle, and news of the outside, which the events say
  pub act : (key : ℕ) (s : State S) → IsStateSound added s → IsStateSound added (called (added.act key s) s)
  pub item : (code : ℤ) (bytes : List ℕ) (s : State S) → IsStateSound added s → IsStateSound added (called (added.item code bytes s) s)
