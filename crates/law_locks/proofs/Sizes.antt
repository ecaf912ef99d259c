-- A queue with a size never holds more: each try keeps to it.
use Rattle.std.proofs.Common.{List, [], ◌∷◌}
use Rattle.model_reach.specs.Part.{place_of}
use Rattle.model_sync.specs.Synced.{Synced, none_synced, sync_part, waiting_at}
use Rattle.model_sync.specs.Serving.{wanted_of}
use Rattle.law_queues.specs.Kept.{KeepsToSizes}
use Rattle.law_queues.proofs.Sizes.{asked_said, woken_said}
use Rattle.law_locks.specs.Tries.{Asks, GoesOn, Try, kept_after, said_of}

try_within : (it : Try) (kept : Synced) → KeepsToSizes kept → KeepsToSizes (said_of it kept).call.state
try_within (Asks code arguments l) kept h = asked_said l.parts kept h code (wanted_of code arguments)
try_within (GoesOn key input l) kept h =
    woken_said l.parts kept h (waiting_at (place_of sync_part key) kept) key (place_of sync_part key) input

all_within : (tries : List Try) (kept : Synced) → KeepsToSizes kept → KeepsToSizes (kept_after tries kept)
all_within [] kept h = h
all_within (it ∷ tries) kept h = all_within tries (said_of it kept).call.state (try_within it kept h)

pub keep_to_sizes : (tries : List Try) → KeepsToSizes (kept_after tries none_synced)
keep_to_sizes tries = all_within tries none_synced tt
