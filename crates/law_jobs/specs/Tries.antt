-- What happens of jobs, one thing after another, and what is noted of it.
use Rattle.std.specs.Prelude.{ℕ, ℤ, List, [], ◌∷◌, ◌++◌, Option, Some, None, if◌then◌else◌}
use Rattle.model_value.specs.Input.{Input}
use Rattle.model_value.specs.Value.{Value}
use Rattle.model_loop.specs.Parts.{Parts}
use Rattle.model_machine.specs.Extra as extra
use Rattle.model_machine.specs.Extra.{ExtraAnswer, ExtraCall, ExtraSaid}
use Rattle.model_reach.specs.Part.{place_of, stays}
use Rattle.model_fields.specs.Fields.{numbered}
use Rattle.model_exec.specs.Execed.{Execed, Standing, exec_part, standing_at}
use Rattle.model_exec.specs.Serving.{Wanted, asked, is_job_code, told, wanted_of, woken}
use Rattle.law_jobs.specs.Notes.{Accepts, Answers, Comes, Note, Raises, Wants}

-- A task asks; a request goes on, under its key, with what the outside answered or with what its wait came to; there are news.
pub data Try : Type 0 where
  Asks : (code : ℤ) (arguments : List Value) → Try
  GoesOn : (key : ℕ) (input : Input) (p : Parts) → Try
  HasNews : (code : ℤ) (bytes : List ℕ) → Try

-- ---- what the definitions say of it
abbrev pub woken_at : (key : ℕ) → Input → Parts → Execed → ExtraSaid Execed
woken_at key input p kept = let place = place_of exec_part key in woken (standing_at place kept) key place input p kept

abbrev pub heard : (code : ℤ) → List ℕ → Execed → ExtraCall Execed
heard code bytes kept = if is_job_code code then told (numbered bytes) kept else stays kept

-- what is kept then
abbrev pub now_of : Try → Execed → Execed
now_of (Asks code arguments) kept = (asked code arguments kept).call.state
now_of (GoesOn key input p) kept = (woken_at key input p kept).call.state
now_of (HasNews code bytes) kept = (heard code bytes kept).state

abbrev pub kept_after : List Try → Execed → Execed
kept_after [] kept = kept
kept_after (it ∷ tries) kept = kept_after tries (now_of it kept)

-- ---- what is noted of it
-- A request is known by the place of its key. One that asks the outside wants its job.
abbrev pub asked_note : Option Wanted → ExtraAnswer → (request : ℕ) → List Note
asked_note (Some it) (extra.Asks code bytes key) request = Wants request it.kind it.input ∷ []
asked_note _ answer request = []

-- one that waits had its job accepted, under the next number
abbrev pub gone_note : (number request : ℕ) → ExtraAnswer → List Note
gone_note number request (extra.Answers value) = Answers request value ∷ []
gone_note number request (extra.Raises exception) = Raises request exception ∷ []
gone_note number request (extra.Waits on key) = Accepts number request ∷ []
gone_note number request (extra.Asks code bytes key) = []

abbrev pub woken_note : Option Standing → (number request : ℕ) → ExtraAnswer → List Note
woken_note None number request answer = []
woken_note (Some it) number request answer = gone_note number request answer

abbrev pub news_note : Option (ℕ × List ℕ) → List Note
news_note None = []
news_note (Some it) = Comes it.0 it.1 ∷ []

abbrev pub noted : Try → Execed → List Note
noted (Asks code arguments) kept = asked_note (wanted_of arguments) (asked code arguments kept).answer kept.drawn
noted (GoesOn key input p) kept =
    let place = place_of exec_part key in woken_note (standing_at place kept) kept.accepted place (woken_at key input p kept).answer
noted (HasNews code bytes) kept = if is_job_code code then news_note (numbered bytes) else []

-- all of them, in order
abbrev pub notes : List Try → Execed → List Note
notes [] kept = []
notes (it ∷ tries) kept = noted it kept ++ notes tries (now_of it kept)
