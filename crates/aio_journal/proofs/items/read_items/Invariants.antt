use Rattle.std.proofs.Common.{◌≡◌, ◌++◌, length, option_map}
use Rattle.model_wire.specs.JournalText.{items_of}
use Rattle.aio_journal.proofs.items.read_items.Given as goal

abbrev pub invariant-loop-items : goal.invariant-loop-items
invariant-loop-items l = items_of l.fn.words ≡ option_map (λ others. l.items.items ++ others) (items_of l.words)

abbrev pub decreases-loop-items : goal.decreases-loop-items
decreases-loop-items l = length l.words
