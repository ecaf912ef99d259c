use Rattle.std.proofs.Common.{◌≡◌, ◌-◌, ◌^◌, min, take}
use Rattle.model_value.specs.Value.{excs}
use Rattle.model_value.specs.Weight.{members_weight}
use Rattle.aio_base.proofs.weigh.weight_of_members.Given as goal

abbrev pub invariant-loop-member : goal.invariant-loop-member
invariant-loop-member l = l.total ≡ min (members_weight (excs (take l.member-index l.members))) (2 ^ 64 - 1)
