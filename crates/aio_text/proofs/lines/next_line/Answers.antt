use Rattle.std.proofs.Common.{rules, arith}
use Rattle.std.proofs.lemmas.List.{take_rest}
use Rattle.std.proofs.Math.Seq.{drop-length}
use Rattle.aio_text.proofs.Cuts.{lines_of-cut, lines_of-whole}
use Rattle.aio_text.proofs.lines.next_line.Goals as goal

pub returns-then-byte-eq10-clause-line : goal.returns-then-byte-eq10-clause-line
returns-then-byte-eq10-clause-line c =
    rw take_rest (lines_of-cut c.args.text.now c.loop-at.at (omega arith) c.loop-at.invariant (search rules))

pub returns-clause-line : goal.returns-clause-line
returns-clause-line c =
    rw (take_rest, drop-length) (lines_of-whole c.args.text.now (search rules) (λ k h. c.loop-at.invariant k (omega arith)))
