use Rattle.std.proofs.Common.{◌≡◌, ◌++◌, take}
use Rattle.std.specs.List.{flat_map}
use Rattle.aio_stream.specs.Kept.{all_opened}
use Rattle.aio_transports.specs.Watched.{watched_of}
use Rattle.aio_transports.proofs.transports.Transports.watch_all.Given as goal

abbrev pub invariant-loop-one : goal.invariant-loop-one
invariant-loop-one l =
    l.into.items ≡ l.fn.into.items ++ flat_map (watched_of l.self) (all_opened (take l.one-index l.those))
