-- What is seen of a launcher that plays: how many launches it refused, and nothing else.
use Rattle.std.specs.Prelude.{ℕ, None}
use Rattle.model_hub.specs.Told.{LauncherSeen}

abbrev pub untold : ℕ → LauncherSeen
untold faults = record { launches = None; kills = None; faults = faults }
