-- How long a poll waits.
use Rattle.std.specs.Prelude.{ℕ, ◌+◌, ◌-◌, ◌^◌, Option, Some, None, min}

-- What is left now of a wait that began when the last poll told its time: its end, which is 2^64 - 1 at the latest, less
-- this time. One without a bound has no end.
abbrev pub left_of : ℕ → Option ℕ → ℕ → Option ℕ
left_of polled None now = None
left_of polled (Some wait) now = Some (min (polled + wait) (2 ^ 64 - 1) - now)
