-- What a poller and a launcher in memory do.
use Rattle.std.specs.Prelude.{◌≡◌, ℕ, ◌==◌, List, [], ◌∷◌, ◌++◌, Bool, true, false, Option, Some, None, if◌then◌else◌}
use Rattle.std.specs.List.{list_any}
use Rattle.model_wire.specs.Call.{Call, Answer}
use Rattle.model_wire.specs.declared.answer.Answer.TheVariants as answer
use Rattle.model_wire.specs.declared.call.Call.TheVariants as call
use Rattle.model_wire.specs.Fits.{fits}
use Rattle.model_hub.specs.Told.{one_more}

-- which calls fail, by their numbers from 1; and how many were made and failed
pub record Plan : Type 0 where
  pub failing : List ℕ
  pub made : ℕ
  pub faults : ℕ

abbrev pub plan_of : List ℕ → Plan
plan_of failing = record { failing = failing; made = 0; faults = 0 }

-- the next call fails
abbrev pub fails_next : Plan → Bool
fails_next plan = list_any (λ listed. listed == one_more plan.made) plan.failing

abbrev pub after_call : Plan → Plan
after_call plan =
    record plan { made = one_more plan.made; faults = if fails_next plan then one_more plan.faults else plan.faults }

-- what is answered where no answer is left that fits
abbrev pub spare_answer : Call → Answer
spare_answer (call.Select wait watched) = answer.Turn 0 []
spare_answer (call.Listen port) = answer.Refused
spare_answer (call.Accept server) = answer.Again
spare_answer (call.Connect port) = answer.Refused
spare_answer (call.Recv conn) = answer.Again
spare_answer (call.Send conn bytes) = answer.Again
spare_answer (call.Feed child bytes) = answer.Again
spare_answer (call.Shut conn) = answer.Done
spare_answer (call.Close conn) = answer.Done
spare_answer (call.CloseServer server) = answer.Done
spare_answer (call.End child) = answer.Done
spare_answer (call.Kill child) = answer.Done
spare_answer (call.Launch words) = answer.Refused
spare_answer (call.Extra code bytes) = answer.Refused

-- the first of the answers that are left, where it fits
abbrev pub answer_from : List Answer → Call → Answer
answer_from [] asks = spare_answer asks
answer_from (first ∷ more) asks = if fits asks first then first else spare_answer asks

abbrev pub left_after : List Answer → Call → List Answer
left_after [] asks = []
left_after (first ∷ more) asks = if fits asks first then more else first ∷ more

-- A poller in memory: the answers that are left, its plan, and the calls that it was asked and the answers that it gave.
pub record PollerState : Type 0 where
  pub left : List Answer
  pub plan : Plan
  pub asked : List Call
  pub given : List Answer

-- after a call that failed
abbrev pub after_failure : Call → PollerState → PollerState
after_failure asks state = record state { plan = after_call state.plan; asked = state.asked ++ asks ∷ [] }

-- after a call that it answered
abbrev pub after_answer : Call → PollerState → PollerState
after_answer asks state =
    record {
      left = left_after state.left asks;
      plan = after_call state.plan;
      asked = state.asked ++ asks ∷ [];
      given = state.given ++ answer_from state.left asks ∷ [];
    }

-- What it answers to a call; nothing where that fails.
abbrev pub Answers : Call → PollerState → Option Answer → PollerState → Type 0
Answers asks old None new = (fails_next old.plan ≡ true) × (new ≡ after_failure asks old)
Answers asks old (Some given) new =
    (fails_next old.plan ≡ false) × (given ≡ answer_from old.left asks) × (fits asks given ≡ true) × (new ≡ after_answer asks old)
