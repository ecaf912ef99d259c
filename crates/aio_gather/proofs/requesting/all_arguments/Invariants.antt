use Rattle.std.proofs.Common.{◌≡◌, Some, map, take}
use Rattle.model_machine.specs.State.{State}
use Rattle.model_gather.specs.Gathered.{Gathered, as_all_awaited, futures_of, values_of}
use Rattle.aio_task.specs.View.{parts as parts_of}
use Rattle.aio_gather.specs.Kept.{argument_as}
use Rattle.aio_gather.specs.Requested.{NamesAs}
use Rattle.aio_gather.proofs.requesting.all_arguments.Given as goal

abbrev pub invariant-loop-item : goal.invariant-loop-item
invariant-loop-item l = record {
  futures : (s : State Gathered) → NamesAs l.futures (parts_of l.parts) s
      → as_all_awaited s (take l.item-index l.items) ≡ Some (futures_of (map argument_as l.those.items));
  values : values_of (map argument_as l.those.items) ≡ take l.item-index l.items;
}
