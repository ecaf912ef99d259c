-- What is seen of a wire that fails at each call: it tells nothing but how often it failed.
use Rattle.std.specs.Prelude.{ℕ, None, false}
use Rattle.model_wire.specs.Told.{WireSeen, Going}

abbrev pub dead : ℕ → WireSeen
dead faults = record { left = None; asked = None; handed = None; end = Going; fitting = false; faults = faults }
