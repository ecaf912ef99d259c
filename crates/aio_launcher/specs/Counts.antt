-- What is seen of the system's programs: how often a launch failed, and nothing else.
use Rattle.std.specs.Prelude.{ℕ, None}
use Rattle.model_hub.specs.Told.{LauncherSeen}

abbrev pub untold_launches : ℕ → LauncherSeen
untold_launches faults = record { launches = None; kills = None; faults = faults }
