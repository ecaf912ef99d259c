use Rattle.std.proofs.Common.{◌≡◌}
use Rattle.aio_pump.proofs.put.put.Given as goal

abbrev pub invariant-loop : goal.invariant-loop
invariant-loop g l =
    (l.left ≡ l.initial.left) × (l.poster ≡ l.initial.poster) × (g.B.Bell.rings l.bell ≡ g.B.Bell.rings l.initial.bell)
