-- What a row of a table holds: a line, and the entry that it is; or a call with an answer, and whether it fits.
use Rattle.std.specs.Prelude.{ℕ, Bool, List, None, codes}
use Prim.Native.String.{String}
use Rattle.model_wire.specs.declared.watch.Watch.{Watch}
use Rattle.model_wire.specs.declared.answer.Answer.TheVariants as answer
use Rattle.model_wire.specs.declared.call.Call.TheVariants as call
use Rattle.model_wire.specs.Call.{Call, Answer, Item}
use Rattle.model_wire.specs.Fits.{fits}
use Rattle.model_wire.specs.Journal.{Entry, Answered, Refused}
use Rattle.model_wire.specs.JournalText.{entry_of, no_form, bad_number}

pub record EntryRow : Type 0 where
  pub line : List ℕ
  pub expected : Entry

abbrev pub found : EntryRow → Entry
found row = entry_of 7 row.line

abbrev pub expected : EntryRow → Entry
expected row = row.expected

-- a line that says this answer
abbrev pub says : String → Answer → EntryRow
says line said = record { line = codes line; expected = Answered said }

-- a line that says this turn
abbrev pub turns : String → ℕ → List Item → EntryRow
turns line now items = says line (answer.Turn now items)

-- a line that is no entry
abbrev pub bad_form : String → EntryRow
bad_form line = record { line = codes line; expected = Refused 7 no_form }

-- a line with a number that is refused
abbrev pub wide : String → EntryRow
wide line = record { line = codes line; expected = Refused 7 bad_number }

pub record FittingRow : Type 0 where
  pub asked : Call
  pub said : Answer
  pub fitting : Bool

abbrev pub is_fitting : FittingRow → Bool
is_fitting pair = fits pair.asked pair.said

abbrev pub expected_fitting : FittingRow → Bool
expected_fitting pair = pair.fitting

abbrev pub pair : Call → Answer → Bool → FittingRow
pair asked said fitting = record { asked = asked; said = said; fitting = fitting }

-- a turn said to a select with this watch list
abbrev pub turn_to : List Watch → List Item → Bool → FittingRow
turn_to watched items fitting = pair (call.Select None watched) (answer.Turn 5 items) fitting
