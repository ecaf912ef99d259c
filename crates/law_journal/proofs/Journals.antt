-- A journal that was written answer by answer is read back as these answers.
use Rattle.std.proofs.Common.{◌≡◌, ℕ, ◌+◌, false, List, [], ◌∷◌, ◌++◌, map, refl, ap, ap₂, ◌∙◌, append_assoc, ◌==◌}
use Rattle.std.specs.Prelude.{if◌then◌else◌}
use Rattle.std.specs.List.{AllByRecursion}
use Rattle.std.proofs.lemmas.Bool.{or_parts}
use Rattle.model_value.specs.Lines.{fronted, lines_of}
use Rattle.model_wire.specs.Call.{Answer, written}
use Rattle.model_wire.specs.Journal.{Entry, Answered}
use Rattle.model_wire.specs.JournalText.{entries_from, entries_of}
use Rattle.law_value.specs.Endings.{has_newline}
use Rattle.law_journal.specs.JournalTexts.{journal_text, MayBeAnswered}
use Rattle.law_journal.proofs.Newlines.{answer-printed}
use Rattle.law_journal.proofs.Readings.{answer-read}

one-line : (line others : List ℕ) → has_newline line ≡ false → lines_of (line ++ 10 ∷ others) ≡ line ∷ lines_of others
one-line [] others e = refl
one-line (byte ∷ line) others e =
    let p = or_parts (byte == 10) (has_newline line) e in
    ap (λ test. if test then [] ∷ lines_of (line ++ 10 ∷ others) else fronted byte (lines_of (line ++ 10 ∷ others))) p.0
    ∙ ap (fronted byte) (one-line line others p.1)

all-lines : (answers : List Answer) → lines_of (journal_text answers) ≡ map written answers
all-lines [] = refl
all-lines (said ∷ answers) =
    ap lines_of (append_assoc (written said) (10 ∷ []) (journal_text answers))
    ∙ (one-line (written said) (journal_text answers) (answer-printed said) ∙ ap (λ lines. written said ∷ lines) (all-lines answers))

all-entries : (number : ℕ) (answers : List Answer) → AllByRecursion MayBeAnswered answers → entries_from number (map written answers) ≡ map Answered answers
all-entries number [] a = refl
all-entries number (said ∷ answers) a =
    ap₂ (λ (first : Entry) (others : List Entry). first ∷ others) (answer-read number a.0.0 said a.0.1 a.0.2) (all-entries (number + 1) answers a.1)

pub journal-read : (answers : List Answer) → AllByRecursion MayBeAnswered answers → entries_of (journal_text answers) ≡ map Answered answers
journal-read answers a = ap (entries_from 1) (all-lines answers) ∙ all-entries 1 answers a
