-- What happens of datagrams in a run: those of its calls of what is added that are of datagrams, in order. `A`, `B` and `C` are what the other
-- parts keep, whatever these are.
use Rattle.std.specs.Prelude.{ℕ, Bool, true, false, List, [], ◌∷◌, ◌++◌, Option, Some, None, if◌then◌else◌}
use Rattle.model_wire.specs.Event.{Event}
use Rattle.model_machine.specs.Extra.{Extra, ExtraCall, ExtraSaid}
use Rattle.model_machine.specs.Replies.{input_by}
use Rattle.model_reach.specs.Reach.{OfDgram, OfExec, OfGather, OfSync, Part, Parted, part_of_code, part_of_key, reach}
use Rattle.model_dgram.specs.Endpoints.{Endpoints, none_opened}
use Rattle.model_dgram.specs.Serving.{dgram_means}
use Rattle.law_changes.specs.Reaches.{goes, stays}
use Rattle.law_calls.specs.Told as told
use Rattle.law_calls.specs.Told.{Acts, Happening, HasHappened, Hears, IsHistory, Told, Wakes, first_told}
use Rattle.law_datagrams.specs.Notes.{Note}
use Rattle.law_datagrams.specs.Tries.{Asks, GoesOn, HasNews, Try, notes}

abbrev pub is_of_dgram : Part → Bool
is_of_dgram OfGather = false
is_of_dgram OfSync = false
is_of_dgram OfExec = false
is_of_dgram OfDgram = true

abbrev pub is_dgram_code : Option Part → Bool
is_dgram_code None = false
is_dgram_code (Some part) = is_of_dgram part

module _ {A B C : Type 0} where
  -- as one part of what is added serves it
  abbrev pub called_in : ExtraCall Endpoints → Parted A B C Endpoints → ExtraCall (Parted A B C Endpoints)
  called_in call kept = record { state = record kept { dgram = call.state }; steps = call.steps }

  abbrev pub served_in : ExtraSaid Endpoints → Parted A B C Endpoints → ExtraSaid (Parted A B C Endpoints)
  served_in said kept = record { call = called_in said.call kept; answer = said.answer }

  abbrev pub tries_in : Happening (Parted A B C Endpoints) → List Try
  tries_in (told.Asks task code arguments s) = if is_dgram_code (part_of_code code) then Asks code arguments s.loop.parts ∷ [] else []
  tries_in (Wakes task key input s) = if is_of_dgram (part_of_key key) then GoesOn key input s.loop.parts ∷ [] else []
  tries_in (Hears question answer s) = if is_of_dgram (part_of_key question.key) then GoesOn question.key (input_by answer) s.loop.parts ∷ [] else []
  tries_in (Acts key s) = []
  tries_in (told.HasNews code bytes s) = if is_dgram_code (part_of_code code) then HasNews code bytes ∷ [] else []

  abbrev pub tries_of : {limit : ℕ} {added : Extra (Parted A B C Endpoints)} {first last : Told (Parted A B C Endpoints)} → IsHistory limit added first last
      → List Try
  tries_of stays = []
  tries_of (goes history it may) = tries_of history ++ tries_in it

  -- What is kept came by calls alone, which the events tell; and of what is noted of datagrams this holds, and of what is kept of them.
  pub record ComesByTries (limit : ℕ) (gather : Extra A) (sync : Extra B) (exec : Extra C) (first : Parted A B C Endpoints)
      (Promise : List Note → Endpoints → Type 0) (kept : Parted A B C Endpoints) (events : List Event) : Type 0 where
    pub happened : HasHappened limit (reach gather sync exec dgram_means) (first_told first) kept events
    pub promise : Promise (notes (tries_of happened.history) none_opened) kept.dgram
