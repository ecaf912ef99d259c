-- The time between two looks at the clock.
use Rattle.std.specs.Prelude.{ℕ, ◌-◌, ◌/◌, ◌^◌, min, max}
use Rattle.std.specs.Time.{instant_nanos}
use Rattle.aio_poller.specs.declared.look.Look.{Look}

-- whole milliseconds, 2^63 - 1 at most; none where the clock went back
abbrev pub millis_between : Look → Look → ℕ
millis_between start now = min ((instant_nanos now.at - instant_nanos start.at) / 1_000_000) (2 ^ 63 - 1)

-- the time that is told after another was told: what the clock says, or that where it is later
abbrev pub told_after : (before : ℕ) (start now : Look) → ℕ
told_after before start now = max before (millis_between start now)
