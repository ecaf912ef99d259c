-- Where nothing is added, that keeps states sound: each request that is added raises, and changes nothing.
use Rattle.std.proofs.Common.{ℕ, ℤ, pos, true, false, List, Option, Some, None, refl}
use Rattle.model_value.specs.Input.{Input}
use Rattle.model_value.specs.declared.input.Input.TheVariants.{Throw}
use Rattle.model_value.specs.declared.request.Request.TheVariants as request
use Rattle.model_value.specs.Value.{Value, Exc}
use Rattle.model_says.specs.Requests.{bad_argument}
use Rattle.model_machine.specs.Arguments.{as_int, as_list}
use Rattle.model_machine.specs.Extra.{NamesNothing, no_extra, unknown_code}
use Rattle.model_machine.specs.Replies.{given, reply, serves, woken}
use Rattle.model_machine.specs.Sound.{ids_of, names_made}
use Rattle.model_machine.specs.State.{Asked, Serving, State, resumed}
use Rattle.law_turns.proofs.Loops.{refl_loop}
use Rattle.law_replies.specs.Added.{KeepsSound}
use Rattle.law_replies.specs.InStep.{IsAsked, IsStepSound, RepliesInStep}
use Rattle.law_replies.proofs.Answering.{step_to}
use Rattle.law_replies.proofs.Table.{same_tapes, thrown}
use Rattle.law_runs.proofs.Beginning.{serving_leaves}

module _ (task : ℕ) (code arguments : Value) (s : State (Unit {0})) (is : IsAsked no_extra task Asked (request.Extra code arguments) s) where
  raised : (fault : Exc) → IsStepSound no_extra task (resumed false task (Throw fault) s)
  raised = thrown no_extra task s (request.Extra code arguments) is (λ b f. refl) (λ f. refl)

  asks : RepliesInStep no_extra false task (reply no_extra task (request.Extra code arguments) s)
  unfolding reply
  asks = number (as_int code)
    where
      items : (n : ℤ) (o : Option (List Value))
          → RepliesInStep no_extra false task (given o (λ items now. serves (no_extra.ask task n items now) (woken no_extra task) task now) s)
      items n None = raised bad_argument
      items n (Some values) = raised (unknown_code n)

      number : (o : Option ℤ)
          → RepliesInStep no_extra false task
          (given o (λ n. given (as_list arguments) (λ items now. serves (no_extra.ask task n items now) (woken no_extra task) task now)) s)
      number None = raised bad_argument
      number (Some n) = items n (as_list arguments)

wakes : (task key : ℕ) (code arguments : Value) (input : Input) (s : State (Unit {0}))
    → IsAsked no_extra task (Serving key) (request.Extra code arguments) s → RepliesInStep no_extra true task (woken no_extra task key input s)
wakes task key code arguments input s is =
    step_to no_extra task (Serving key) (request.Extra code arguments) s is s (same_tapes s s.loop) is.others.futures refl refl
    (refl_loop (names_made (ids_of s)) refl false (Some task) None None None s.loop) is.others.loop (λ id e. serving_leaves key id e)
    true (Throw (unknown_code (pos key))) (λ b. refl) refl refl

pub nothing_keeps : KeepsSound no_extra
nothing_keeps = record {
  ask = λ task code arguments s step is. asks task code arguments s is;
  wake = λ task key code arguments input s good is. wakes task key code arguments input s is;
  act = λ key s sound. sound;
  item = λ code bytes s sound. sound;
}

pub names_nothing : NamesNothing (no_extra.keeps tt)
names_nothing = record { tasks = refl; futures = refl; own = refl; tags = refl; values = refl }
