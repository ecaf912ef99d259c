use Rattle.std.proofs.Common.{◌≡◌}
use Rattle.try_pumps.proofs.posting.post_again.Given as goal

abbrev pub invariant-loop : goal.invariant-loop
invariant-loop g l = l.poster ≡ l.initial.poster
