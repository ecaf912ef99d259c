use Rattle.std.proofs.Common.{◌≡◌, take}
use Rattle.model_gather.specs.Gathered.{distinct as distinct_of}
use Rattle.aio_gather.proofs.counting.distinct.Given as goal

abbrev pub invariant-loop-id : goal.invariant-loop-id
invariant-loop-id l = record {
  members : l.members.items ≡ distinct_of (take l.id-index l.awaited);
  seen : l.seen.keys ≡ distinct_of (take l.id-index l.awaited);
}
