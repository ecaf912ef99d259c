-- What a wire was asked and what it was handed, by the events of a run.
use Rattle.std.specs.Prelude.{◌≡◌, ◌≤◌, List, ◌++◌, None, length}
use Rattle.std.specs.Option.{option_map}
use Rattle.model_wire.specs.Event.{Event, calls_in, handed_in}
use Rattle.model_wire.specs.Told.{WireSeen}

-- Between two moments a wire was asked the calls of these events, and none besides, and handed the bytes that their answers took,
-- and none besides; where it tells them.
pub record Asks (events : List Event) (before after : WireSeen) : Type 0 where
  pub asked : after.asked ≡ option_map (λ calls. calls ++ calls_in events) before.asked
  pub handed : after.handed ≡ option_map (λ held to. held to ++ handed_in events None to) before.handed

-- one call at most, with its answer or without
abbrev pub AsksOnce : (before after : WireSeen) → Type 0
AsksOnce before after = (events : List Event) × (length (calls_in events) ≤ 1) × Asks events before after
