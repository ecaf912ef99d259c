-- Jobs beside the loop keep to their own futures.
use Rattle.std.proofs.Common.{◌≡◌, inl, inr, ℕ, ℤ, pos, Bool, true, false, List, [], ◌∷◌, Option, Some, None, refl, arith}
use Rattle.std.proofs.Common.{length-append}
use Rattle.std.specs.Prelude.{if◌then◌else◌}
use Rattle.model_value.specs.Input.{Input}
use Rattle.model_value.specs.Value.{Value}
use Rattle.model_value.specs.declared.input.Input.TheVariants.{Send, Throw}
use Rattle.model_loop.specs.Futures.{next_future}
use Rattle.model_loop.specs.Parts.{Plain}
use Rattle.model_says.specs.Operations.{out_of_range}
use Rattle.model_machine.specs.Extra.{Asks, ExtraSaid, MakesPlain, Raises, Waits, made_by_all, unknown_code}
use Rattle.model_machine.specs.State.{State}
use Rattle.model_reach.specs.Part.{can_draw, place_of, refuses, stays}
use Rattle.model_fields.specs.Fields.{numbered}
use Rattle.model_exec.specs.Jobs.{is_job, job_code, job_text}
use Rattle.model_exec.specs.Execed.{Asking, Execed, Standing, Waiting, accept, ask_last, draw, exec_keeps, exec_part, job_over, next_key, place_of_job, says}
use Rattle.model_exec.specs.Execed.{stand_no_more, stand_on, standing_at}
use Rattle.model_exec.specs.Serving.{Wanted, asked_for, asked_to, exec_means, given_to, is_job_code, is_next, no_job, strange_answer, told, wanted_of, woken}
use Rattle.law_runs.specs.Allowed.{IsAmong}
use Rattle.law_sync.proofs.Lists.{each_from}
use Rattle.law_exec.proofs.Holding.{Holds, found_holds, holds_from, holds_on, last_holds, no_more_holds, on_holds, own_holds}
use Rattle.law_heeded.specs.Owned.{IsCallKept, KeepsToItsFutures, WasOwnOrMade}

module _ (s : State Execed) where
  abbrev Old : ℕ → Type 0
  Old id = IsAmong (exec_keeps s.extra).own id

  abbrev first : ℕ
  first = next_future s.loop.parts

  abbrev Kept : (last : ℕ) → ℕ → Type 0
  Kept last = WasOwnOrMade (exec_keeps s.extra).own first last

  holds : Holds Old s.extra
  holds = holds_from Old s.extra (each_from Old (exec_keeps s.extra).own (λ id among. among))

  -- no step
  quiet : (state : Execed) → Holds Old state → IsCallKept exec_means (record { state = state; steps = [] }) s
  quiet state is = record {
    settles = tt;
    own = own_holds (Kept first) state (holds_on Old (Kept first) (λ id old. inl old) state is);
  }

  still_kept : IsCallKept exec_means (stays s.extra) s
  still_kept = quiet s.extra holds

  -- ---- as it is asked
  ask_kept : (code : ℤ) (o : Option Wanted) → IsCallKept exec_means (asked_for code o s.extra).call s
  ask_kept code None = still_kept
  ask_kept code (Some it) = at (can_draw exec_part s.extra.drawn 1)
    where
      to : (b : Bool)
          → IsCallKept exec_means
          (ExtraSaid.call
          (if b then says (ask_last s.extra) [] (Asks (pos job_code) (job_text it.kind it.input) (next_key s.extra))
          else says (draw s.extra) [] (Raises no_job))) s
      to true = quiet (ask_last s.extra) (last_holds Old s.extra holds)
      to false = quiet (draw s.extra) holds

      at : (b : Bool) → IsCallKept exec_means (ExtraSaid.call (if b then asked_to it s.extra else refuses out_of_range s.extra)) s
      at true = to (is_job it.kind it.input)
      at false = still_kept

  asked_kept : (b : Bool) (code : ℤ) (arguments : List Value)
      → IsCallKept exec_means (ExtraSaid.call (if b then asked_for code (wanted_of arguments) s.extra else refuses (unknown_code code) s.extra)) s
  asked_kept true code arguments = ask_kept code (wanted_of arguments)
  asked_kept false code arguments = still_kept

  -- ---- as it is woken
  module _ (key place : ℕ) where
    abbrev waiting : Execed
    waiting = accept place (stand_on place (Waiting first None) s.extra)

    abbrev last : ℕ
    last = next_future (made_by_all (MakesPlain ∷ []) s.loop).parts

    -- it waits on a future that it makes
    waits_kept : IsCallKept exec_means (record { state = waiting; steps = MakesPlain ∷ [] }) s
    waits_kept =
        let e = length-append s.loop.parts.futures (record { kind = Plain; outcome = None; callbacks = [] } ∷ []) in
        record {
          settles = (tt, tt);
          own = own_holds (Kept last) waiting
              (on_holds (Kept last) place (Waiting first None) s.extra (holds_on Old (Kept last) (λ id old. inl old) s.extra holds)
              (inr (omega arith, omega (arith, e)), tt));
        }

    woken_kept : (input : Input) (o : Option Standing) → IsCallKept exec_means (woken o key place input s.loop.parts s.extra).call s
    woken_kept input None = still_kept
    woken_kept (Send value) (Some Asking) = at (is_next s.extra value)
      where
        at : (b : Bool)
            → IsCallKept exec_means
            (ExtraSaid.call
            (if b then says waiting (MakesPlain ∷ []) (Waits first key) else says (stand_no_more place s.extra) [] (Raises strange_answer))) s
        at true = waits_kept
        at false = quiet (stand_no_more place s.extra) (no_more_holds Old place s.extra holds)
    woken_kept (Throw exception) (Some Asking) = quiet (stand_no_more place s.extra) (no_more_holds Old place s.extra holds)
    woken_kept (Send value) (Some (Waiting on came)) = quiet (stand_no_more place s.extra) (no_more_holds Old place s.extra holds)
    woken_kept (Throw exception) (Some (Waiting on came)) = quiet (stand_no_more place s.extra) (no_more_holds Old place s.extra holds)

  -- ---- news
  given_kept : (number place : ℕ) (result : List ℕ) (o : Option Standing) → standing_at place s.extra ≡ o
      → IsCallKept exec_means (given_to o place result (job_over number s.extra)) s
  given_kept number place result None e = quiet (job_over number s.extra) holds
  given_kept number place result (Some Asking) e = quiet (job_over number s.extra) holds
  given_kept number place result (Some (Waiting on came)) e =
      let mine = found_holds Old place on came s.extra holds e in
      record {
        settles = (inl mine, tt);
        own = own_holds (WasOwnOrMade (exec_keeps s.extra).own first _) (stand_on place (Waiting on (Some result)) (job_over number s.extra))
            (holds_on Old (WasOwnOrMade (exec_keeps s.extra).own first _) (λ id old. inl old) (stand_on place (Waiting on (Some result)) (job_over number s.extra))
            (on_holds Old place (Waiting on (Some result)) (job_over number s.extra) holds (mine, tt)));
      }

  told_kept : (o : Option (ℕ × List ℕ)) → IsCallKept exec_means (told o s.extra) s
  told_kept None = still_kept
  told_kept (Some it) = at (place_of_job it.0 s.extra)
    where
      at : (o : Option ℕ)
          → IsCallKept exec_means
          (elim o [ None ↦ stays s.extra | Some place ↦ given_to (standing_at place s.extra) place it.1 (job_over it.0 s.extra) ]) s
      at None = still_kept
      at (Some place) = given_kept it.0 place it.1 (standing_at place s.extra) refl

  item_kept : (b : Bool) (bytes : List ℕ) → IsCallKept exec_means (if b then told (numbered bytes) s.extra else stays s.extra) s
  item_kept true bytes = told_kept (numbered bytes)
  item_kept false bytes = still_kept

pub exec_keeps_to : KeepsToItsFutures exec_means
exec_keeps_to = record {
  ask = λ task code arguments s. asked_kept s (is_job_code code) code arguments;
  wake = λ key input s. woken_kept s key (place_of exec_part key) input (standing_at (place_of exec_part key) s.extra);
  act = λ key s. still_kept s;
  item = λ code bytes s. item_kept s (is_job_code code) bytes;
}
