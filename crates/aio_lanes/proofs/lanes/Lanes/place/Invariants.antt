use Rattle.std.proofs.Common.{◌+◌, ◌-◌}
use Rattle.std.specs.Vec.{vec_len}
use Rattle.aio_lanes.specs.Given.{HaveSameLanes}
use Rattle.aio_lanes.proofs.lanes.Lanes.place.Given as goal

abbrev pub invariant-loop-self : goal.invariant-loop-self
invariant-loop-self g l = HaveSameLanes l.initial.self-inside.children.items l.self-inside.children.items

abbrev pub decreases-loop-self : goal.decreases-loop-self
decreases-loop-self g l = l.number + 1 - vec_len l.self-inside.children
