use Rattle.std.proofs.Common.{◌≡◌, ◌++◌, replicate}
use Rattle.aio_work.proofs.journal.push_letters.Given as goal

abbrev pub invariant-loop-letter : goal.invariant-loop-letter
invariant-loop-letter l = l.out.items ≡ l.initial.out.items ++ replicate l.letter 120
