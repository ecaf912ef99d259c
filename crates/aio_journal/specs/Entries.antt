-- What reading a line gives.
use Rattle.std.specs.Prelude.{◌≡◌, ℕ, List, Result, Ok, Err}
use Rattle.model_wire.specs.Call.{Answer}
use Rattle.model_wire.specs.Journal.{Answered, Refused}
use Rattle.model_wire.specs.JournalText.{entry_of}
use Rattle.aio_journal.specs.declared.entry.EntryFault.{EntryFault}
use Rattle.aio_journal.specs.declared.entry.EntryFault.TheVariants as fault

-- the answer that the line says, or the line's number and the cause for which it is refused
abbrev pub EntryIs : ℕ → List ℕ → Result Answer EntryFault → Type 0
EntryIs number line (Ok said) = entry_of number line ≡ Answered said
EntryIs number line (Err (fault.Refused refused)) = entry_of number line ≡ Refused refused.line refused.cause
EntryIs number line (Err fault.Memory) = Unit {0}
