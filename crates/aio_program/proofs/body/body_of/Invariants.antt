use Rattle.std.proofs.Common.{◌≡◌, length, map}
use Rattle.std.specs.Vec.Iter.{into_iter_items, into_iter_len}
use Rattle.aio_program.specs.Line.{plain_line}
use Rattle.aio_program.specs.Body.{body_with}
use Rattle.aio_program.proofs.body.body_of.Given as goal

abbrev pub invariant-loop-line : goal.invariant-loop-line
invariant-loop-line l = (body_with l.begun (map plain_line (into_iter_items l.line-iterator))
    ≡ body_with l.initial.begun (map plain_line (into_iter_items l.initial.line-iterator)))
    × (into_iter_len l.line-iterator ≡ length (into_iter_items l.line-iterator))
