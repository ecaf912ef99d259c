use Rattle.std.proofs.Common.{◌≡◌, ◌++◌, flat_map}
use Rattle.model_work.specs.Work.{arrival_text, numbers_from}
use Rattle.aio_work.proofs.journal.push_arrivals.Given as goal

abbrev pub invariant-loop-past : goal.invariant-loop-past
invariant-loop-past l = l.out.items ≡ l.initial.out.items ++ flat_map arrival_text (numbers_from 1 l.past)
