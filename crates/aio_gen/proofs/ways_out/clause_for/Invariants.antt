use Rattle.std.proofs.Common.{◌≡◌, drop}
use Rattle.algorithm_flat.specs.Moves.{clause_for}
use Rattle.aio_gen.proofs.ways_out.clause_for.Given as goal

abbrev pub invariant-loop-clause : goal.invariant-loop-clause
invariant-loop-clause l = clause_for l.fault l.clauses ≡ clause_for l.fault (drop l.clause-index l.clauses)
