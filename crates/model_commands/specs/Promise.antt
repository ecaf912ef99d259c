-- What the program promises: the theorem, and its words.
use Rattle.std.specs.Prelude.{◌≡◌, ◌≢◌, ℕ, List, Option, None, ◌⊎◌}
use Rattle.model_wire.specs.Event.{Event}
use Rattle.model_wire.specs.Told.{ShelfSeen, SinkSeen, WireSeen}
use Rattle.model_program.specs.Written.{SinkStops, StopsShort, WritesWhole}
use Rattle.model_words.specs.Words.{command_of}
use Rattle.model_commands.specs.Causes.{IsCaused}
use Rattle.model_commands.specs.Outputs.{IsUnbegun, KeepsFiles, KeepsWire, MayWrite, Outside}
use Rattle.model_commands.specs.Telling.{Between, TellsAll, TellsFirst, TellsFirstAndOne}

-- The outside at a moment: the shelf and the wire; what is seen of the shelf, of the wire and of the sink; and that each call of the wire
-- fails.
pub record Moment (F W : Type 0) : Type 1 where
  pub shelf : F
  pub wire : W
  pub files : ShelfSeen
  pub told : WireSeen
  pub fails : Type 0
  pub sink : SinkSeen

-- what is seen of it between two moments
abbrev pub between : {F W : Type 0} → (old new : Moment F W) → Between
between old new = record { old = old.files; new = new.files; before = old.told; after = new.told }

-- What is known of it: it was told all of the run, and the run's end has its cause.
abbrev pub whole : {F W : Type 0} → (old new : Moment F W) → Outside
whole old new = record {
  seen = between old new;
  same = new.wire ≡ old.wire;
  fails = old.fails;
  told = TellsAll (between old new);
  caused = IsCaused old.told new.told;
}

-- Where the run was cut short it was told the first of it, and nothing is known of the end that it would have had.
abbrev pub first : {F W : Type 0} → (old new : Moment F W) → (told : Between → (file : Option (List ℕ)) → List Event → Type 0) → Outside
first old new told = record {
  seen = between old new;
  same = new.wire ≡ old.wire;
  fails = old.fails;
  told = told (between old new);
  caused = λ end. Unit {0};
}

abbrev pub stopped : {F W : Type 0} → (old new : Moment F W) → Outside
stopped old new = first old new TellsFirst

abbrev pub starved : {F W : Type 0} → (old new : Moment F W) → Outside
starved old new = first old new TellsFirstAndOne

-- The theorem: what the program does for the words behind its name, for every shelf, wire and sink, by its exit status.
pub record Behaves {F W : Type 0} (given : List (List ℕ)) (old new : Moment F W) (status : ℕ) : Type 0 where
  -- Under every status but 9 and 11 the sink took exactly the text of an output that may be, and the status is its own.
  pub written : status ≢ 9 → status ≢ 11 → WritesWhole (MayWrite (whole old new) (command_of given)) old.sink new.sink status
  -- Under 9 it took the whole of an output that has this status, which there is only where a file or the wire failed; or it
  -- took a front, and failed.
  pub fault : status ≡ 9
      → WritesWhole (MayWrite (whole old new) (command_of given)) old.sink new.sink 9
      ⊎ SinkStops (MayWrite (stopped old new) (command_of given)) (IsUnbegun (stopped old new) (command_of given)) old.sink new.sink
  -- Under 11 it took a front, and did not fail; where a file or the wire failed, it is a front of that fault's output.
  pub memory : status ≡ 11
      → StopsShort (MayWrite (starved old new) (command_of given)) (IsUnbegun (starved old new) (command_of given)) old.sink new.sink
  -- Files change as the command says.
  pub files : KeepsFiles (command_of given) old.files new.files
  -- The wire is asked by a run of a script alone.
  pub wire : KeepsWire (command_of given) old.files old.wire new.wire
  -- Words that are refused ask nothing of the shelf.
  pub words : command_of given ≡ None → new.shelf ≡ old.shelf
