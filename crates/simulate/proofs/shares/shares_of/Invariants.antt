use Rattle.std.proofs.Common.{◌≡◌, ◌+◌, ◌≤◌, vec_len}
use Rattle.simulate.specs.Shares.{Covers}
use Rattle.simulate.proofs.shares.shares_of.Given as goal

abbrev pub invariant-loop-number : goal.invariant-loop-number
invariant-loop-number l =
    Covers 0 l.before l.shares.items × (l.before ≤ l.runs) × (vec_len l.shares + 1 ≡ l.number)
