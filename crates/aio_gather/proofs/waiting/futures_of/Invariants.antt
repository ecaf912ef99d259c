use Rattle.std.proofs.Common.{◌≡◌, map, take}
use Rattle.model_gather.specs.Gathered.{futures_of}
use Rattle.aio_gather.specs.Kept.{argument_as}
use Rattle.aio_gather.proofs.waiting.futures_of.Given as goal

abbrev pub invariant-loop-it : goal.invariant-loop-it
invariant-loop-it l = l.ids.items ≡ futures_of (map argument_as (take l.it-index l.arguments))
