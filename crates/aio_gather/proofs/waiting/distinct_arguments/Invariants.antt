use Rattle.std.proofs.Common.{◌≡◌, map, take}
use Rattle.model_gather.specs.Gathered.{distinct_arguments, futures_of}
use Rattle.aio_gather.specs.Kept.{argument_as}
use Rattle.aio_gather.proofs.waiting.distinct_arguments.Given as goal

abbrev pub invariant-loop-it : goal.invariant-loop-it
invariant-loop-it l = record {
  those : map argument_as l.those.items ≡ distinct_arguments (map argument_as (take l.it-index l.arguments));
  seen : l.seen.keys ≡ futures_of (distinct_arguments (map argument_as (take l.it-index l.arguments)));
}
