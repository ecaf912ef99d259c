-- What a sink takes of what may be written, whole or in part.
use Rattle.std.specs.Prelude.{◌≡◌, ℕ, List, [], ◌++◌, ◌⊎◌}
use Rattle.model_wire.specs.Told.{SinkSeen, took, SinkFailed}

-- all that is written, and the exit status
pub record ProgramOutput : Type 0 where
  pub text : List ℕ
  pub status : ℕ

-- the sink took the whole text of an output that may be, and this is its status
abbrev pub WritesWhole : (ProgramOutput → Type 0) → SinkSeen → SinkSeen → ℕ → Type 0
WritesWhole may old new status = (output : ProgramOutput) × may output × (new ≡ took old output.text) × (status ≡ output.status)

-- a text begins with this one
abbrev pub IsFrontOf : List ℕ → List ℕ → Type 0
IsFrontOf front text = (rest : List ℕ) × (front ++ rest ≡ text)

-- a front of the text of an output that may be; it is empty while no file was read, and then none failed
abbrev pub MayBegin : (ProgramOutput → Type 0) → (none_failed : Type 0) → List ℕ → Type 0
MayBegin may none_failed front = ((front ≡ []) × none_failed) ⊎ ((output : ProgramOutput) × may output × IsFrontOf front output.text)

-- the sink took such a front, and did not fail
abbrev pub StopsShort : (ProgramOutput → Type 0) → (none_failed : Type 0) → SinkSeen → SinkSeen → Type 0
StopsShort may none_failed old new = (front : List ℕ) × MayBegin may none_failed front × (new ≡ took old front)

-- the sink took such a front, and then it failed
abbrev pub SinkStops : (ProgramOutput → Type 0) → (none_failed : Type 0) → SinkSeen → SinkSeen → Type 0
SinkStops may none_failed old new = (front : List ℕ) × MayBegin may none_failed front × SinkFailed front old new
