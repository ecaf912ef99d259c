-- What a run's events record, and how the file in which they are recorded grows.
use Rattle.std.specs.Prelude.{◌≡◌, ◌≢◌, ℕ, List, [], ◌∷◌, ◌++◌, Option, Some, None, flat_map}
use Rattle.model_wire.specs.declared.event.Event.TheVariants as event
use Rattle.model_wire.specs.Call.{written}
use Rattle.model_wire.specs.Event.{Event}
use Rattle.model_wire.specs.Told.{FileFailed, ShelfSeen}
use Rattle.model_wire.specs.Trace.{line}

-- what is recorded of an event: an answer's text on a line, whether it fits its call or not
abbrev pub entry_line : Event → List ℕ
entry_line (event.Called call) = []
entry_line (event.Got answer) = line (written answer)
entry_line (event.Ran action) = []
entry_line (event.Said task text) = []

-- what is recorded of events: their answers, in order
abbrev pub recorded : List Event → List ℕ
recorded events = flat_map entry_line events

-- What is told of a file once these bytes came after its end. One that is missing is made by the first of them: where there are none
-- it stays missing.
abbrev pub with_bytes : Option (Option (List ℕ)) → List ℕ → Option (Option (List ℕ))
with_bytes None bytes = None
with_bytes (Some None) [] = Some None
with_bytes (Some None) (byte ∷ bytes) = Some (Some (byte ∷ bytes))
with_bytes (Some (Some held)) bytes = Some (Some (held ++ bytes))

-- A file grew by these bytes. No other changed, and none failed.
pub record Grew (name bytes : List ℕ) (old new : ShelfSeen) : Type 0 where
  pub grew : new.file name ≡ with_bytes (old.file name) bytes
  pub others : (other : List ℕ) → other ≢ name → new.file other ≡ old.file other
  pub failures : new.faults ≡ old.faults

-- the file that is named grew so; where none is, nothing is seen to change
abbrev pub Records : (name : Option (List ℕ)) → (bytes : List ℕ) → (old new : ShelfSeen) → Type 0
Records None bytes old new = new ≡ old
Records (Some name) bytes old new = Grew name bytes old new

-- A file grew by these bytes, and then it failed. No other changed.
pub record GrewAndFailed (name bytes : List ℕ) (old new : ShelfSeen) : Type 0 where
  pub grew : new.file name ≡ with_bytes (old.file name) bytes
  pub others : (other : List ℕ) → other ≢ name → new.file other ≡ old.file other
  pub failed : FileFailed name old new

-- the same of a file that is named
abbrev pub FailsRecording : (name : Option (List ℕ)) → (bytes : List ℕ) → (old new : ShelfSeen) → Type 0
FailsRecording None bytes old new = ⊥
FailsRecording (Some name) bytes old new = GrewAndFailed name bytes old new
