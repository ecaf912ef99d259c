use Rattle.std.proofs.Common.{◌≡◌, ◌-◌, ◌^◌, min, take}
use Rattle.model_value.specs.Value.{excs}
use Rattle.model_value.specs.Depth.{members_depth}
use Rattle.aio_base.proofs.nesting.depth_of_members.Given as goal

abbrev pub invariant-loop-member : goal.invariant-loop-member
invariant-loop-member l = l.deepest ≡ min (members_depth (excs (take l.member-index l.members))) (2 ^ 64 - 1)
