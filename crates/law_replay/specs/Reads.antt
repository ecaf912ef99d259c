-- What a run reads of what the outside has left to answer.
use Rattle.std.specs.Prelude.{◌≡◌, ℕ, List, [], ◌∷◌, ◌++◌, map}
use Rattle.model_wire.specs.declared.event.End.TheVariants as end
use Rattle.model_wire.specs.Journal.{Entry, Answered, Refused}
use Rattle.model_wire.specs.Trace.{End}
use Rattle.model_machine.specs.Run.{Run}
use Rattle.law_journal.specs.RecordedAnswers.{answers_of}

-- What may stand behind the answers that a run had, so that it ends as it did: nothing where it asked for one more, the line
-- that was refused where it met one, and otherwise whatever there is.
abbrev pub MayFollow : End → List Entry → Type 0
MayFollow (end.Returned value) more = Unit {0}
MayFollow (end.Raised fault) more = Unit {0}
MayFollow end.Cancelled more = Unit {0}
MayFollow end.WordsRefused more = Unit {0}
MayFollow (end.ScriptRefused number cause) more = Unit {0}
MayFollow (end.JournalRefused number cause) more = (rest : List Entry) × (more ≡ Refused number cause ∷ rest)
MayFollow (end.Mismatch count call) more = Unit {0}
MayFollow (end.Over call) more = more ≡ []
MayFollow end.Stalled more = Unit {0}
MayFollow (end.Runaway task) more = Unit {0}
MayFollow end.ShelfFault more = Unit {0}
MayFollow end.WireFault more = Unit {0}
MayFollow (end.Turns allowed) more = Unit {0}

-- A run over so many turns goes by the answers that it had alone: they are the first of those that the outside has, and with
-- whatever may stand behind them it is the same run. `runs` are the runs of a program.
pub record ReadsAlone (runs : List Entry → (turns : ℕ) → Run) (answers : List Entry) (turns : ℕ) : Type 0 where
  pub left : List Entry
  pub are : answers ≡ map Answered (answers_of (runs answers turns).events) ++ left
  pub follows : MayFollow (runs answers turns).end left
  pub again : (more : List Entry) → MayFollow (runs answers turns).end more
      → runs (map Answered (answers_of (runs answers turns).events) ++ more) turns ≡ runs answers turns
