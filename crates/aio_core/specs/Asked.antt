-- What a wire was asked and what it was handed, by the events that tell of it.
use Rattle.std.specs.Prelude.{◌≡◌, ◌≤◌, List, Option, length}
use Rattle.model_wire.specs.Call.{Call}
use Rattle.model_wire.specs.Event.{Event, calls_in, handed_in}
use Rattle.model_wire.specs.Told.{WireSeen}
use Rattle.aio_exchange.specs.Exchanged.{asked_by, handed_to}

-- Between two moments a wire was asked the calls of these events, and none besides, and handed the bytes that their answers took,
-- and none besides; and so whatever call came before.
pub record Asks (events : List Event) (before after : WireSeen) : Type 0 where
  pub asked : after.asked ≡ asked_by (calls_in events) before.asked
  pub handed : (last : Option Call) → after.handed ≡ handed_to (handed_in events last) before.handed

-- one call at most, with its answer or without
abbrev pub AsksOnce : (before after : WireSeen) → Type 0
AsksOnce before after = (events : List Event) × (length (calls_in events) ≤ 1) × Asks events before after
