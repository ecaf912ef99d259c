-- Each side of a fork has fewer entries than the fork.
use Rattle.std.specs.Prelude.{◌≤◌, max, length, map}
use Rattle.std.proofs.Common.{arith, length-append}
use Rattle.std.proofs.lemmas.List.{length-map}
use Rattle.aio_ready.specs.declared.index.Fork.{Fork}
use Rattle.aio_ready.specs.declared.index.Fork.TheVariants.{Tip, More}
use Rattle.aio_ready.specs.declared.index.Index.TheDeep.{deep-Fork}
use Rattle.aio_ready.specs.Found.{low, high}
use Rattle.aio_ready.specs.Sides.{entries_of}

pub depth_le-length : (n : Fork) → max (deep-Fork n) 0 ≤ length (entries_of n)
depth_le-length Tip = omega arith
depth_le-length (More number said sides) =
    omega (arith, length-append (map low sides.value.0) (map high sides.value.1), length-map sides.value.0 low, length-map sides.value.1 high)
