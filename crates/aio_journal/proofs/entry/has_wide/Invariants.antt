use Rattle.std.proofs.Common.{◌≡◌, length}
use Rattle.std.specs.List.{list_any}
use Rattle.model_wire.specs.JournalText.{tokens_of, is_too_wide}
use Rattle.aio_journal.proofs.entry.has_wide.Given as goal

abbrev pub invariant-loop-token : goal.invariant-loop-token
invariant-loop-token l = list_any is_too_wide (tokens_of l.line) ≡ list_any is_too_wide l.words

abbrev pub decreases-loop-token : goal.decreases-loop-token
decreases-loop-token l = length l.words
