use Rattle.std.proofs.Common.{◌≡◌, Some, take}
use Rattle.model_machine.specs.State.{State}
use Rattle.model_gather.specs.Gathered.{Gathered, as_all_awaited}
use Rattle.aio_task.specs.View.{parts as parts_of}
use Rattle.aio_gather.specs.Requested.{NamesAs}
use Rattle.aio_gather.proofs.requesting.all_awaited.Given as goal

abbrev pub invariant-loop-item : goal.invariant-loop-item
invariant-loop-item l =
    (s : State Gathered) → NamesAs l.futures (parts_of l.parts) s → as_all_awaited s (take l.item-index l.items) ≡ Some l.awaited.items
