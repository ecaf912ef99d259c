use Rattle.std.proofs.Common.{◌≡◌, take}
use Rattle.std.specs.Prelude.{filter}
use Rattle.aio_task.specs.View.{parts as parts_of}
use Rattle.aio_gather.specs.Requested.{is_wanted}
use Rattle.aio_gather.proofs.counting.among.Given as goal

abbrev pub invariant-loop-id : goal.invariant-loop-id
invariant-loop-id l = l.those.items ≡ filter (is_wanted l.pending (parts_of l.parts)) (take l.id-index l.members)
