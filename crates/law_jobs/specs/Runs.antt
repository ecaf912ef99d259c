-- What happens of jobs in a run: those of its calls of what is added that are of jobs, in order. `A`, `B` and `D` are what the other
-- parts keep, whatever these are.
use Rattle.std.specs.Prelude.{ℕ, Bool, true, false, List, [], ◌∷◌, ◌++◌, Option, Some, None, if◌then◌else◌}
use Rattle.model_wire.specs.Event.{Event}
use Rattle.model_machine.specs.Extra.{Extra, ExtraCall, ExtraSaid}
use Rattle.model_machine.specs.Replies.{input_by}
use Rattle.model_reach.specs.Reach.{OfDgram, OfExec, OfGather, OfSync, Part, Parted, part_of_code, part_of_key, reach}
use Rattle.model_exec.specs.Execed.{Execed, none_execed}
use Rattle.model_exec.specs.Serving.{exec_means}
use Rattle.law_changes.specs.Reaches.{goes, stays}
use Rattle.law_calls.specs.Told as told
use Rattle.law_calls.specs.Told.{Acts, Happening, HasHappened, Hears, IsHistory, Told, Wakes, first_told}
use Rattle.law_jobs.specs.Notes.{Note}
use Rattle.law_jobs.specs.Tries.{Asks, GoesOn, HasNews, Try, notes}

abbrev pub is_of_exec : Part → Bool
is_of_exec OfGather = false
is_of_exec OfSync = false
is_of_exec OfExec = true
is_of_exec OfDgram = false

abbrev pub is_exec_code : Option Part → Bool
is_exec_code None = false
is_exec_code (Some part) = is_of_exec part

module _ {A B D : Type 0} where
  -- as one part of what is added serves it
  abbrev pub called_in : ExtraCall Execed → Parted A B Execed D → ExtraCall (Parted A B Execed D)
  called_in call kept = record { state = record kept { exec = call.state }; steps = call.steps }

  abbrev pub served_in : ExtraSaid Execed → Parted A B Execed D → ExtraSaid (Parted A B Execed D)
  served_in said kept = record { call = called_in said.call kept; answer = said.answer }

  abbrev pub tries_in : Happening (Parted A B Execed D) → List Try
  tries_in (told.Asks task code arguments s) = if is_exec_code (part_of_code code) then Asks code arguments ∷ [] else []
  tries_in (Wakes task key input s) = if is_of_exec (part_of_key key) then GoesOn key input s.loop.parts ∷ [] else []
  tries_in (Hears question answer s) = if is_of_exec (part_of_key question.key) then GoesOn question.key (input_by answer) s.loop.parts ∷ [] else []
  tries_in (Acts key s) = []
  tries_in (told.HasNews code bytes s) = if is_exec_code (part_of_code code) then HasNews code bytes ∷ [] else []

  abbrev pub tries_of : {limit : ℕ} {added : Extra (Parted A B Execed D)} {first last : Told (Parted A B Execed D)} → IsHistory limit added first last
      → List Try
  tries_of stays = []
  tries_of (goes history it may) = tries_of history ++ tries_in it

  -- What is kept came by calls alone, which the events tell; and of what is noted of jobs this holds, and of what is kept of them.
  pub record ComesByTries (limit : ℕ) (gather : Extra A) (sync : Extra B) (dgram : Extra D) (first : Parted A B Execed D)
      (Promise : List Note → Execed → Type 0) (kept : Parted A B Execed D) (events : List Event) : Type 0 where
    pub happened : HasHappened limit (reach gather sync exec_means dgram) (first_told first) kept events
    pub promise : Promise (notes (tries_of happened.history) none_execed) kept.exec
