-- A journal as far as it was read.
use Rattle.std.specs.Prelude.{◌≡◌, ℕ, ◌+◌, ◌^◌, ◌<◌, ◌≤◌, Bool, true, false, ◌||◌, List, [], ◌∷◌, ◌++◌, Option, Some, None, option_map, length, take, drop, nat_lt, if◌then◌else◌}
use Rattle.model_value.specs.Lines.{lines_of}
use Rattle.model_wire.specs.Journal.{Entry, Answered, Refused}
use Rattle.model_wire.specs.JournalText.{entries_from, entry_of, most_line}
use Rattle.model_wire.specs.Told.{WireEnd, Going, OutOfAnswers, AtRefused}
use Rattle.law_entries.specs.Begins.{has_newline}
use Rattle.aio_wire.specs.declared.wire.Reply.{Reply}
use Rattle.aio_wire.specs.declared.wire.Reply.TheVariants.{Got, Over, Bad, Failed}
use Rattle.aio_memwire.specs.declared.journal.NextLine.{NextLine}
use Rattle.aio_memwire.specs.declared.journal.NextLine.TheVariants as line

-- The bytes that were read of a file and not given yet, from which place on the file wasn't read, the number of the first
-- of the lines that are left, and whether the file's end was read.
pub record Unread : Type 0 where
  pub held : List ℕ
  pub from : ℕ
  pub line : ℕ
  pub ended : Bool

-- nothing was read
abbrev pub unread : Unread
unread = record { held = []; from = 0; line = 1; ended = false }

-- The next line is held whole, or more of it than a line may have.
abbrev pub is_whole : Unread → Bool
is_whole it = it.ended || (has_newline it.held || nat_lt most_line (length it.held))

-- as much as is held: a line as long as a line may be, and a piece behind it
abbrev pub most_held : ℕ
most_held = most_line + 65536

-- what is held stays within that
abbrev pub HoldsFew : Unread → Unread → Type 0
HoldsFew old new = length old.held ≤ most_held → length new.held ≤ most_held

-- what a file has from a place on, where it is told; a missing one has nothing
abbrev pub rest_of : Option (List ℕ) → ℕ → List ℕ
rest_of None from = []
rest_of (Some all) from = drop from all

-- what comes after the bytes that are held: nothing where the end was read, and else the rest of the file, where that is told
abbrev pub more_of : Option (Option (List ℕ)) → Unread → Option (List ℕ)
more_of told it = if it.ended then Some [] else option_map (λ file. rest_of file it.from) told

-- the entries that are left where this comes after what is held
abbrev pub entries_with : Unread → List ℕ → List Entry
entries_with it more = entries_from it.line (lines_of (it.held ++ more))

-- the entries that are left, where the file is told or its end was read
abbrev pub left_of : Option (Option (List ℕ)) → Unread → Option (List Entry)
left_of told it = option_map (entries_with it) (more_of told it)

-- how a journal's wire ended, by the entries that are held
abbrev pub end_of_entries : List Entry → WireEnd
end_of_entries [] = OutOfAnswers
end_of_entries (Answered answer ∷ entries) = Going
end_of_entries (Refused number cause ∷ entries) = AtRefused number cause

abbrev pub end_of : Unread → WireEnd
end_of it = if is_whole it then end_of_entries (entries_with it []) else Going

-- what is held of the next line
abbrev pub IsNextLine : Unread → NextLine → Type 0
IsNextLine it (line.Ended at) =
    (at < length it.held) × (at + 1 < 2 ^ 64) × (has_newline (take at it.held) ≡ false) × (it.held ≡ take at it.held ++ 10 ∷ drop (at + 1) it.held)
IsNextLine it line.TooLong = (most_line < length it.held) × (has_newline it.held ≡ false)
IsNextLine it line.Last = (it.ended ≡ true) × (has_newline it.held ≡ false)
IsNextLine it line.Failed = Unit {0}

-- An answer of the first line is given, and so many bytes with it are gone; a refused line stays.
abbrev pub GivesLine : (size gone : ℕ) → Unread → Unread → Reply → Type 0
GivesLine size gone old new (Got answer) =
    (entry_of old.line (take size old.held) ≡ Answered answer) × (new ≡ record old { held = drop gone old.held; line = old.line + 1 })
GivesLine size gone old new (Bad fault) = (entry_of old.line (take size old.held) ≡ Refused fault.line fault.cause) × (new ≡ old)
GivesLine size gone old new Over = ⊥
GivesLine size gone old new Failed = ⊥

-- a reply that is no failure
abbrev pub IsSure : Reply → Type 0
IsSure (Got answer) = Unit {0}
IsSure Over = Unit {0}
IsSure (Bad fault) = Unit {0}
IsSure Failed = ⊥
