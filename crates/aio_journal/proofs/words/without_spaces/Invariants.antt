use Rattle.std.proofs.Common.{◌≡◌, drop}
use Rattle.model_wire.specs.JournalText.{words_of}
use Rattle.aio_journal.proofs.words.without_spaces.Given as goal

abbrev pub invariant-loop-at : goal.invariant-loop-at
invariant-loop-at l = words_of (drop l.at l.text) ≡ words_of l.text
