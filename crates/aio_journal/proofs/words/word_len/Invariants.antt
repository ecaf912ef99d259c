use Rattle.std.proofs.Common.{◌≡◌, ◌+◌, drop}
use Rattle.model_wire.specs.JournalText.{Outside}
use Rattle.aio_journal.specs.Words.{plain_place, word_len}
use Rattle.aio_journal.proofs.words.word_len.Given as goal

abbrev pub invariant-loop-at : goal.invariant-loop-at
invariant-loop-at l = word_len Outside l.text ≡ l.at + word_len (plain_place l.place) (drop l.at l.text)
