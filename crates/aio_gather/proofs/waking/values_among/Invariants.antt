use Rattle.std.proofs.Common.{◌≡◌, map, take}
use Rattle.std.specs.Prelude.{filter}
use Rattle.model_gather.specs.Gathered.{Argument, values_of}
use Rattle.aio_task.specs.View.{parts as parts_of}
use Rattle.aio_gather.specs.Kept.{argument_as}
use Rattle.aio_gather.specs.Requested.{is_wanted}
use Rattle.aio_gather.proofs.waking.values_among.Given as goal

abbrev pub invariant-loop-it : goal.invariant-loop-it
invariant-loop-it l =
    l.values.items
    ≡ values_of (filter (λ (it : Argument). is_wanted l.pending (parts_of l.parts) it.future) (map argument_as (take l.it-index l.arguments)))
