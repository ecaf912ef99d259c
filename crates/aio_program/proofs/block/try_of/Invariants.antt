use Rattle.std.proofs.Common.{◌≡◌, length, map}
use Rattle.std.specs.Vec.Iter.{into_iter_items, into_iter_len}
use Rattle.aio_program.specs.Block.{plain_section, try_with}
use Rattle.aio_program.proofs.block.try_of.Given as goal

abbrev pub invariant-loop-section : goal.invariant-loop-section
invariant-loop-section l = (try_with l.begun (map plain_section (into_iter_items l.section-iterator))
    ≡ try_with l.initial.begun (map plain_section (into_iter_items l.initial.section-iterator)))
    × (into_iter_len l.section-iterator ≡ length (into_iter_items l.section-iterator))
