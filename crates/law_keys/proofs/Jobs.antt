-- Jobs beside the loop make a future to wait on, or end one, and stand under the keys that they drew.
use Rattle.std.proofs.Common.{◌≡◌, ℕ, ℤ, pos, Bool, true, false, List, [], ◌∷◌, Option, Some, None, ap, arith}
use Rattle.std.specs.Prelude.{◌%◌, ◌==◌, if◌then◌else◌}
use Rattle.std.specs.List.{AllByRecursion as Each}
use Rattle.model_value.specs.Input.{Input}
use Rattle.model_value.specs.Value.{Value}
use Rattle.model_value.specs.declared.input.Input.TheVariants.{Send, Throw}
use Rattle.model_loop.specs.Futures.{next_future}
use Rattle.model_loop.specs.Parts.{Parts}
use Rattle.model_says.specs.Operations.{out_of_range}
use Rattle.model_machine.specs.Extra.{Asks, ExtraCall, ExtraSaid, MakesPlain, Raises, Waits, unknown_code}
use Rattle.model_machine.specs.State.{State}
use Rattle.model_reach.specs.Part.{can_draw, key_at, only_says, passes, place_of, refuses, stays}
use Rattle.model_reach.specs.Reach.{OfDgram, OfExec, OfGather, OfSync, part_of_key}
use Rattle.model_fields.specs.Fields.{numbered}
use Rattle.model_exec.specs.Jobs.{is_job, job_code, job_text}
use Rattle.model_exec.specs.Execed.{Asking, Execed, Standing, Waiting, accept, ask_last, draw, exec_part, job_over, next_key, place_of_job, says}
use Rattle.model_exec.specs.Execed.{stand_no_more, stand_on, standing_at}
use Rattle.model_exec.specs.Serving.{Wanted, asked_for, asked_to, exec_means, given_to, is_job_code, is_next, no_job, strange_answer, told, wanted_of, woken}
use Rattle.law_waiters.specs.Timed.{IsStepOf, KeepsToKeys, WaitsAsPart}

-- its steps and its answer stand under keys of this part
abbrev IsOfExec : ExtraSaid Execed → Type 0
IsOfExec said = Each (IsStepOf OfExec) said.call.steps × WaitsAsPart OfExec said.answer

key_of_exec : (place : ℕ) → part_of_key (key_at exec_part place) ≡ OfExec
key_of_exec place =
    let two : key_at exec_part place % 4 ≡ 2 = omega arith in
    ap (λ n. if n == 0 then OfGather else (if n == 1 then OfSync else (if n == 2 then OfExec else OfDgram))) two

passed_of_exec : (input : Input) (kept : Execed) → IsOfExec (only_says (passes input) kept)
passed_of_exec (Send value) kept = (tt, tt)
passed_of_exec (Throw exception) kept = (tt, tt)

-- ---- as it is asked
asked_to_exec : (it : Wanted) (kept : Execed) → IsOfExec (asked_to it kept)
asked_to_exec it kept = at (is_job it.kind it.input)
  where
    at : (b : Bool)
        → IsOfExec
        (if b then says (ask_last kept) [] (Asks (pos job_code) (job_text it.kind it.input) (next_key kept)) else says (draw kept) [] (Raises no_job))
    at true = (tt, key_of_exec kept.drawn)
    at false = (tt, tt)

asked_for_exec : (code : ℤ) (o : Option Wanted) (kept : Execed) → IsOfExec (asked_for code o kept)
asked_for_exec code None kept = (tt, tt)
asked_for_exec code (Some it) kept = at (can_draw exec_part kept.drawn 1)
  where
    at : (b : Bool) → IsOfExec (if b then asked_to it kept else refuses out_of_range kept)
    at true = asked_to_exec it kept
    at false = (tt, tt)

asked_of_exec : (b : Bool) (code : ℤ) (arguments : List Value) (kept : Execed)
    → IsOfExec (if b then asked_for code (wanted_of arguments) kept else refuses (unknown_code code) kept)
asked_of_exec true code arguments kept = asked_for_exec code (wanted_of arguments) kept
asked_of_exec false code arguments kept = (tt, tt)

-- ---- as it is woken
woken_of_exec : (key place : ℕ) (input : Input) (p : Parts) (kept : Execed) → part_of_key key ≡ OfExec → (o : Option Standing)
    → IsOfExec (woken o key place input p kept)
woken_of_exec key place input p kept of None = passed_of_exec input kept
woken_of_exec key place (Send value) p kept of (Some Asking) = at (is_next kept value)
  where
    at : (b : Bool)
        → IsOfExec
        (if b
        then says (accept place (stand_on place (Waiting (next_future p) None) kept)) (MakesPlain ∷ []) (Waits (next_future p) key)
        else says (stand_no_more place kept) [] (Raises strange_answer))
    at true = ((tt, tt), of)
    at false = (tt, tt)
woken_of_exec key place (Throw exception) p kept of (Some Asking) = (tt, tt)
woken_of_exec key place (Send value) p kept of (Some (Waiting on None)) = (tt, tt)
woken_of_exec key place (Send value) p kept of (Some (Waiting on (Some result))) = (tt, tt)
woken_of_exec key place (Throw exception) p kept of (Some (Waiting on came)) = (tt, tt)

-- ---- news
abbrev IsCallOfExec : ExtraCall Execed → Type 0
IsCallOfExec call = Each (IsStepOf OfExec) call.steps

given_of_exec : (o : Option Standing) (place : ℕ) (result : List ℕ) (kept : Execed) → IsCallOfExec (given_to o place result kept)
given_of_exec None place result kept = tt
given_of_exec (Some Asking) place result kept = tt
given_of_exec (Some (Waiting on came)) place result kept = (tt, tt)

told_of_exec : (o : Option (ℕ × List ℕ)) (kept : Execed) → IsCallOfExec (told o kept)
told_of_exec None kept = tt
told_of_exec (Some it) kept = at (place_of_job it.0 kept)
  where
    at : (o : Option ℕ)
        → IsCallOfExec (elim o [ None ↦ stays kept | Some place ↦ given_to (standing_at place kept) place it.1 (job_over it.0 kept) ])
    at None = tt
    at (Some place) = given_of_exec (standing_at place kept) place it.1 (job_over it.0 kept)

item_of_exec : (b : Bool) (bytes : List ℕ) (s : State Execed)
    → IsCallOfExec (if b then told (numbered bytes) s.extra else stays s.extra)
item_of_exec true bytes s = told_of_exec (numbered bytes) s.extra
item_of_exec false bytes s = tt

pub exec_keeps_to_keys : KeepsToKeys OfExec exec_means
exec_keeps_to_keys = record {
  ask = λ task code arguments s. asked_of_exec (is_job_code code) code arguments s.extra;
  wake = λ key input s of.
      woken_of_exec key (place_of exec_part key) input s.loop.parts s.extra of (standing_at (place_of exec_part key) s.extra);
  act = λ key s of. tt;
  item = λ code bytes s. item_of_exec (is_job_code code) bytes s;
}
