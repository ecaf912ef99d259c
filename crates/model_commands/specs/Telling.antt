-- How much of a run the outside was told: what a wire was asked, and what was recorded.
use Rattle.std.specs.Prelude.{◌≡◌, ℕ, ◌≤◌, List, ◌++◌, Option, length}
use Rattle.model_wire.specs.Event.{Event, calls_in}
use Rattle.model_wire.specs.Told.{ShelfSeen, WireSeen}
use Rattle.model_program.specs.Written.{IsFrontOf}
use Rattle.model_commands.specs.Asked.{Asks}
use Rattle.model_commands.specs.Recorded.{Records, recorded}

-- what is seen of the shelf and of the wire, before and after
pub record Between : Type 0 where
  pub old : ShelfSeen
  pub new : ShelfSeen
  pub before : WireSeen
  pub after : WireSeen

-- The wire was asked all that these events say, and their answers were recorded, where a file is named for that.
abbrev pub TellsAll : Between → (file : Option (List ℕ)) → List Event → Type 0
TellsAll it file events = Asks events it.before it.after × Records file (recorded events) it.old it.new

-- the same of the first of these events
abbrev pub TellsFirst : Between → (file : Option (List ℕ)) → List Event → Type 0
TellsFirst it file events = (front : List Event) × (rest : List Event) × (events ≡ front ++ rest) × TellsAll it file front

-- The wire was asked what the first of these events say, and one call besides at most; a front of their entries was recorded.
abbrev pub TellsFirstAndOne : Between → (file : Option (List ℕ)) → List Event → Type 0
TellsFirstAndOne it file events =
    (front : List Event) × (rest : List Event) × (events ≡ front ++ rest)
    × ((more : List Event) × (length (calls_in more) ≤ 1) × Asks (front ++ more) it.before it.after)
    × ((bytes : List ℕ) × IsFrontOf bytes (recorded front) × Records file bytes it.old it.new)
