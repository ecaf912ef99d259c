use Rattle.std.proofs.Common.{◌≡◌, [], take}
use Rattle.std.specs.List.{flat_map}
use Rattle.aio_stream.specs.Kept.{all_opened}
use Rattle.aio_transports.specs.Watched.{watched_of}
use Rattle.aio_transports.proofs.transports.Transports.any_watched.Given as goal

-- none so far is watched
abbrev pub invariant-loop-one : goal.invariant-loop-one
invariant-loop-one l = flat_map (watched_of l.self) (all_opened (take l.one-index l.those)) ≡ []
