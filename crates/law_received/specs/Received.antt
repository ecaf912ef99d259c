-- What reads took of what was received, in a state of a run.
use Rattle.std.specs.Prelude.{◌≡◌, ℕ, true, false, List, [], ◌++◌}
use Rattle.model_wire.specs.Event.{Event}
use Rattle.model_loop.specs.Parts.{Parts}
use Rattle.model_stream.specs.Requests.{StreamReader}
use Rattle.model_stream.specs.Streams.{Streams}
use Rattle.law_stream.specs.ReaderSteps.{taken_away}
use Rattle.law_received.specs.Feeding.{IsSpent, OneFed}
use Rattle.law_received.specs.Readers.{held_of, is_failed, is_shut, received, receiver_of}
use Rattle.law_received.specs.Waiting.{IsDue}

-- What reads took so far of a reader, and what was let go as it failed: in order, what was read, then what was let go, then what
-- is held, is all that was received. One that didn't fail let nothing go, and one that failed holds nothing.
pub record IsRead (from : StreamReader) (read let_go : List ℕ) (s : Streams) (events : List Event) : Type 0 where
  pub order : received from events ≡ read ++ (let_go ++ held_of from s)
  pub kept : is_failed from s ≡ false → let_go ≡ []
  pub empty : is_failed from s ≡ true → held_of from s ≡ []

-- of one that didn't fail: what was received and is held no more
abbrev pub read_of : StreamReader → Streams → List Event → List ℕ
read_of from s events = taken_away (received from events) (held_of from s)

-- so of each
abbrev pub AreReadInOrder : Streams → List Event → Parts → Type 0
AreReadInOrder s events p = (from : StreamReader) → (read : List ℕ) × (let_go : List ℕ) × IsRead from read let_go s events

-- From one state to another, these bytes went, and these were let go, step by step: in none of them both.
pub data Since : (from : StreamReader) (first : Streams) (events : List Event) (went let_go : List ℕ) (s : Streams) (now : List Event) → Type 0 where
  Same : (from : StreamReader) (first : Streams) (events : List Event) → Since from first events [] [] first events
  Next : (from : StreamReader) (first mid s : Streams) (events between now : List Event) (went let_go came more lost : List ℕ)
      → Since from first events went let_go mid between → received from now ≡ received from between ++ came
      → IsSpent (receiver_of from mid) (is_shut from mid)
      → OneFed (receiver_of from mid) (is_shut from mid) came more lost (receiver_of from s) (is_shut from s)
      → Since from first events (went ++ more) (let_go ++ lost) s now

-- so in a state, where this was read first, and this let go, in an earlier one
pub record HaveRead (from : StreamReader) (read let_go : List ℕ) (first : Streams) (before : List Event)
    (s : Streams) (events : List Event) (p : Parts) : Type 0 where
  pub ordered : AreReadInOrder s events p
  pub more : List ℕ
  pub lost : List ℕ
  pub is : IsRead from (read ++ more) (let_go ++ lost) s events
  pub since : Since from first before more lost s events

-- so in a state, of one that failed: no more was read, and no more let go
pub record AreOver (from : StreamReader) (read let_go : List ℕ) (s : Streams) (events : List Event) (p : Parts) : Type 0 where
  pub ordered : AreReadInOrder s events p
  pub failed : is_failed from s ≡ true
  pub is : IsRead from read let_go s events

-- ---- within a turn
-- this is told, what waits is due, and each that failed holds nothing and receives no more
pub record IsReading (Tells : Streams → List Event → Parts → Type 0) (bar left : ℕ) (s : Streams) (events : List Event) (p : Parts) : Type 0 where
  pub tells : Tells s events p
  pub due : IsDue bar left s p
  pub spent : (from : StreamReader) → IsSpent (receiver_of from s) (is_shut from s)

-- between turns, where none waits
abbrev pub IsBetween : Streams → List Event → Parts → Type 0
IsBetween = IsReading AreReadInOrder 0 0
