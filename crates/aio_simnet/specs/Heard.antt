-- What a receive makes of one way of a connection.
use Rattle.std.specs.Prelude.{◌≡◌, ℕ, List}
use Rattle.aio_simnet.specs.Carried.{Carried, with_heard}

-- these bytes were heard, and nothing else changed
abbrev pub Hears : Carried → Carried → List ℕ → Type 0
Hears old new bytes = new ≡ with_heard old bytes
