-- A job beside the loop: `extra(300, [kind, bytes])`. Source: the library reference, "Coroutines and Tasks", `asyncio.to_thread`;
-- `base_events.py`, `run_in_executor`.
use Rattle.std.specs.Prelude.{ℕ, ◌==◌, ℤ, pos, negsuc, Bool, true, false, List, [], ◌∷◌, Option, Some, None, bytes_eq, codes}
use Rattle.std.specs.Prelude.{if◌then◌else◌}
use Rattle.std.specs.Fmt.{decimal}
use Rattle.model_value.specs.Input.{Input}
use Rattle.model_value.specs.Value.{Value, Nothing, Bytes, Exc, exception_of}
use Rattle.model_value.specs.declared.input.Input.TheVariants.{Send, Throw}
use Rattle.model_value.specs.declared.kind.Kind.TheVariants.{OSError, ValueError}
use Rattle.model_value.specs.declared.outcome.Outcome.TheVariants.{Value as Returned}
use Rattle.model_says.specs.Requests.{bad_argument}
use Rattle.model_machine.specs.Arguments.{as_bytes, as_int}
use Rattle.model_machine.specs.Extra.{Extra, Answers, Asks, ExtraAnswer, ExtraCall, ExtraSaid, MakesPlain, Raises, Settles, Waits, unknown_code}
use Rattle.model_loop.specs.Futures.{next_future}
use Rattle.model_loop.specs.Parts.{Parts}
use Rattle.model_reach.specs.Part.{drawing, only_says, passes, place_of, refuses, stays}
use Rattle.model_fields.specs.Fields.{numbered}
use Rattle.model_exec.specs.Jobs.{is_job, job_code, job_text}
use Rattle.model_exec.specs.Execed.{Standing, Asking, Waiting, Execed, accept, ask_last, draw, exec_keeps, exec_part, job_over, next_key, place_of_job}
use Rattle.model_exec.specs.Execed.{says, stand_no_more, stand_on, standing_at}

abbrev pub no_job : Exc
no_job = exception_of ValueError (codes "job")

abbrev pub strange_answer : Exc
strange_answer = exception_of OSError (codes "extra answer")

abbrev pub is_job_code : ℤ → Bool
is_job_code (pos code) = code == job_code
is_job_code (negsuc before) = false

-- ---- the request
-- a kind and bytes
pub record Wanted : Type 0 where
  pub kind : ℤ
  pub input : List ℕ

abbrev pub wanted_of : List Value → Option Wanted
wanted_of (x ∷ y ∷ []) =
    elim (as_int x) [
      | None ↦ None
      | Some kind ↦ elim (as_bytes y) [ None ↦ None | Some input ↦ Some (record { kind = kind; input = input }) ]
    ]
wanted_of _ = None

-- the outside is asked, unless it is no job
abbrev pub asked_to : Wanted → Execed → ExtraSaid Execed
asked_to it kept =
    if is_job it.kind it.input
    then says (ask_last kept) [] (Asks (pos job_code) (job_text it.kind it.input) (next_key kept))
    else says (draw kept) [] (Raises no_job)

abbrev pub asked_for : (code : ℤ) → Option Wanted → Execed → ExtraSaid Execed
asked_for code None kept = refuses bad_argument kept
asked_for code (Some it) kept = drawing exec_part kept.drawn 1 (asked_to it kept) kept

abbrev pub asked : (code : ℤ) → List Value → Execed → ExtraSaid Execed
asked code arguments kept = if is_job_code code then asked_for code (wanted_of arguments) kept else refuses (unknown_code code) kept

-- ---- what the outside answered: the job's number, which must be the next
abbrev pub is_next : Execed → Value → Bool
is_next kept (Bytes bytes) = bytes_eq bytes (decimal kept.accepted)
is_next kept _ = false

-- the task waits on a future that is made
abbrev pub answered : (key place : ℕ) → Input → Parts → Execed → ExtraSaid Execed
answered key place (Send value) p kept =
    if is_next kept value
    then says (accept place (stand_on place (Waiting (next_future p) None) kept)) (MakesPlain ∷ []) (Waits (next_future p) key)
    else says (stand_no_more place kept) [] (Raises strange_answer)
answered key place (Throw exception) p kept = says (stand_no_more place kept) [] (Raises exception)

-- ---- the task goes on, with what the job came to
-- nothing but news of its job gives its future a value
abbrev pub came_as : Option (List ℕ) → ExtraAnswer
came_as (Some result) = Answers (Bytes result)
came_as None = Raises strange_answer

-- a job whose task is thrown an exception goes on
abbrev pub waited : (place : ℕ) → Option (List ℕ) → Input → Execed → ExtraSaid Execed
waited place came (Send value) kept = says (stand_no_more place kept) [] (came_as came)
waited place came (Throw exception) kept = says (stand_no_more place kept) [] (Raises exception)

abbrev pub woken : Option Standing → (key place : ℕ) → Input → Parts → Execed → ExtraSaid Execed
woken None key place input p kept = only_says (passes input) kept
woken (Some Asking) key place input p kept = answered key place input p kept
woken (Some (Waiting on came)) key place input p kept = waited place came input kept

-- ---- news: a job's number and what it came to
-- The request that waits for it is given that, and its future wakes its task, unless it is done.
abbrev pub given_to : Option Standing → (place : ℕ) → (result : List ℕ) → Execed → ExtraCall Execed
given_to None place result kept = stays kept
given_to (Some Asking) place result kept = stays kept
given_to (Some (Waiting on came)) place result kept =
    record { state = stand_on place (Waiting on (Some result)) kept; steps = Settles on (Returned Nothing) ∷ [] }

-- what is no number and a result, or names no job that goes on, is passed over
abbrev pub told : Option (ℕ × List ℕ) → Execed → ExtraCall Execed
told None kept = stays kept
told (Some it) kept =
    elim (place_of_job it.0 kept) [
      | None ↦ stays kept
      | Some place ↦ given_to (standing_at place kept) place it.1 (job_over it.0 kept)
    ]

abbrev pub goes_on : List (ℕ × ℕ) → Bool
goes_on [] = false
goes_on (job ∷ jobs) = true

abbrev pub exec_means : Extra Execed
exec_means =
    record {
      ask = λ task code arguments s. asked code arguments s.extra;
      wake = λ key input s.
          let place = place_of exec_part key in
          woken (standing_at place s.extra) key place input s.loop.parts s.extra;
      wakes_left = λ key kept. 0;
      act = λ key s. stays s.extra;
      item = λ code bytes s. if is_job_code code then told (numbered bytes) s.extra else stays s.extra;
      watches = λ kept. goes_on kept.going;
      keeps = exec_keeps;
    }
