use Rattle.std.proofs.Common.{sym, ◌∙◌}
use Rattle.aio_gen.proofs.Clauses.{first-clause, next-clause}
use Rattle.aio_gen.proofs.ways_out.clause_for.Goals as goal

pub returns-then-kind_matches : goal.returns-then-kind_matches
returns-then-kind_matches c =
    let l = c.loop-clause in
    first-clause c.args.fault.now c.args.clauses.now l.clause-index c.clause-item.result c.loop-clause-test.true c.clause-item.is
    (sym c.if-kind_matches.ensures)
    ∙ sym l.invariant

pub loop-clause-preserved : goal.loop-clause-preserved
loop-clause-preserved c =
    let l = c.loop-clause in
    l.invariant
    ∙ next-clause c.args.fault.now c.args.clauses.now l.clause-index c.clause-item.result c.loop-clause-test.true c.clause-item.is
    (sym c.if-kind_matches.ensures)
