-- A request that is woken is not woken again.
use Rattle.std.proofs.Common.{subst}
use Rattle.std.specs.Prelude.{ℕ, List, [], ◌∷◌, Bool, true, false, Option, Some, None, Result, Ok, Err, filter, not, slice_get, if◌then◌else◌}
use Rattle.model_value.specs.Input.{Input}
use Rattle.model_value.specs.Value.{Exc, Items, Value, values}
use Rattle.model_value.specs.declared.input.Input.TheVariants.{Send, Throw}
use Rattle.model_says.specs.Operations.{bounded}
use Rattle.model_loop.specs.Futures.{is_pending}
use Rattle.model_loop.specs.Parts.{Parts}
use Rattle.model_loop.specs.Timeouts.{timeout_exception}
use Rattle.model_machine.specs.Extra.{Answers, KeepsKeys, Raises, WakesFall, key_of}
use Rattle.model_machine.specs.State.{State}
use Rattle.model_reach.specs.Part.{passes, place_of}
use Rattle.model_gather.specs.Gathered.{Argument, Drawn, Expired, Expiring, Finished, Gathered, Timed, TimedState, TimedWait, Waits, WaitsFor}
use Rattle.model_gather.specs.Gathered.{gather_part, values_of}
use Rattle.model_gather.specs.Serving.{gather_means, woken}
use Rattle.model_gather.specs.Wait.{sorted}
use Rattle.model_gather.specs.WaitFor.{wait_for_says, wait_for_woken}

abbrev pub IsNone : {A : Type 0} → Option A → Type 0
IsNone None = Unit {0}
IsNone (Some it) = ⊥

pub passes_once : (input : Input) → IsNone (key_of (passes input))
passes_once (Send value) = tt
passes_once (Throw fault) = tt

-- the lists of a wait's answer
abbrev pub done_list : Parts → List Argument → Value
done_list p arguments = Items (values (values_of (filter (λ (it : Argument). not (is_pending p it.future)) arguments)))

abbrev pub left_list : Parts → List Argument → Value
left_list p arguments = Items (values (values_of (filter (λ (it : Argument). is_pending p it.future) arguments)))

abbrev pub both_lists : Parts → List Argument → Value
both_lists p arguments = Items (values (done_list p arguments ∷ left_list p arguments ∷ []))

pub sorted_once : (p : Parts) (arguments : List Argument) → IsNone (key_of (sorted p arguments))
sorted_once p arguments = at (bounded (both_lists p arguments))
  where
    at : (r : Result Value Exc) → IsNone (key_of (elim r [ Ok value ↦ Answers value | Err fault ↦ Raises fault ]))
    at (Ok value) = tt
    at (Err fault) = tt

pub says_once : (input : Input) (it : TimedWait) (p : Parts) → IsNone (key_of (wait_for_says input it p))
says_once input it p = at _
  where
    at : (b : Bool) → IsNone (key_of (if b then Raises timeout_exception else passes input))
    at true = tt
    at false = passes_once input

waits_once : (place : ℕ) (input : Input) (it : TimedWait) (p : Parts) (kept : Gathered) → (state : TimedState)
    → IsNone (key_of (wait_for_woken place input (record it { state = state }) p kept).answer)
waits_once place input it p kept Timed = passes_once input
waits_once place input it p kept Expiring = says_once input (record it { state = Expiring }) p
waits_once place input it p kept Expired = passes_once input
waits_once place input it p kept Finished = passes_once input

once : (o : Option Drawn) (place : ℕ) (input : Input) (p : Parts) (kept : Gathered) → IsNone (key_of (woken o place input p kept).answer)
once None place input p kept = passes_once input
once (Some (Waits it)) place (Send value) p kept = sorted_once p it.arguments
once (Some (Waits it)) place (Throw fault) p kept = tt
once (Some (WaitsFor it)) place input p kept = waits_once place input it p kept it.state
once (Some _) place input p kept = passes_once input

never : (key : ℕ) (input : Input) (s : State Gathered) → IsNone (key_of (gather_means.wake key input s).answer)
never key input s = once (slice_get s.extra.drawn (place_of gather_part key)) (place_of gather_part key) input s.loop.parts s.extra

pub gather_falls : WakesFall gather_means
gather_falls = λ key input s next e once_. absurd (subst IsNone e (never key input s))

pub gather_same : KeepsKeys gather_means
gather_same = λ key input s next e. absurd (subst IsNone e (never key input s))
