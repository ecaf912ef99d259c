-- What is recorded of events is the text of their answers' journal.
use Rattle.std.proofs.Common.{◌≡◌, ℕ, List, [], ◌∷◌, ◌++◌, map, refl, ap, ◌∙◌}
use Rattle.std.specs.List.{AllByRecursion}
use Rattle.model_wire.specs.declared.event.Event.TheVariants as event
use Rattle.model_wire.specs.Call.{written}
use Rattle.model_wire.specs.Event.{Event}
use Rattle.model_wire.specs.Journal.{Answered}
use Rattle.model_wire.specs.JournalText.{entries_of}
use Rattle.model_wire.specs.Trace.{line}
use Rattle.model_commands.specs.Recorded.{recorded}
use Rattle.law_journal.specs.JournalTexts.{journal_text, MayBeAnswered}
use Rattle.law_journal.proofs.Journals.{journal-read}
use Rattle.law_journal.specs.RecordedAnswers.{answers_of}

recorded-is : (events : List Event) → recorded events ≡ journal_text (answers_of events)
recorded-is [] = refl
recorded-is (event.Called call ∷ events) = recorded-is events
recorded-is (event.Got answer ∷ events) = ap (λ (rest : List ℕ). line (written answer) ++ rest) (recorded-is events)
recorded-is (event.Ran action ∷ events) = recorded-is events
recorded-is (event.Said task text ∷ events) = recorded-is events

pub recorded-read : (events : List Event) → AllByRecursion MayBeAnswered (answers_of events)
    → entries_of (recorded events) ≡ map Answered (answers_of events)
recorded-read events fit = ap entries_of (recorded-is events) ∙ journal-read (answers_of events) fit
