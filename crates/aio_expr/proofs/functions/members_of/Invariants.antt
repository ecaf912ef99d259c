use Rattle.std.proofs.Common.{◌≡◌, map, take}
use Rattle.model_value.specs.Value.{Exception}
use Rattle.aio_expr.proofs.functions.members_of.Given as goal

abbrev pub invariant-loop-member : goal.invariant-loop-member
invariant-loop-member l = l.members.items ≡ map Exception (take l.member-index l.member-items)
