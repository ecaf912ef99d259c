-- One more part is said.
use Rattle.std.proofs.Common.{◌∙◌}
use Rattle.aio_lex.proofs.SaidLemmas.{said_more}
use Rattle.aio_lex.proofs.literal.literal_bytes.Goals as goal

pub loop-at-preserved : goal.loop-at-preserved
loop-at-preserved c =
    let m =
    said_more c.args.literal c.args.column c.loop-at.at c.in-Some.len c.in-Some.value c.args.inside.now
    c.loop-at.said.items c.loop-at-test.true c.in-Some.ensures.0 c.in-Some.ensures.1 in
    rw c.in_ok-push.ensures.items (record { within = m.within; parts = c.loop-at.invariant.parts ∙ m.parts })
