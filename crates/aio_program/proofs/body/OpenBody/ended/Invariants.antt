use Rattle.std.proofs.Common.{◌≡◌, [], length}
use Rattle.aio_program.specs.Body.{rest, around_all}
use Rattle.aio_program.proofs.body.OpenBody.ended.Given as goal

abbrev pub invariant-loop-block : goal.invariant-loop-block
invariant-loop-block l =
    (around_all l.blocks.items (rest l.so_far.items [])).body ≡ (around_all l.initial.blocks.items (rest l.initial.so_far.items [])).body

abbrev pub decreases-loop-block : goal.decreases-loop-block
decreases-loop-block l = length l.blocks.items
