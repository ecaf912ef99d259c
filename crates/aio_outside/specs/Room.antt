-- What a turn has room for.
use Rattle.std.specs.Prelude.{ℕ, ◌-◌, List, map, sum}
use Rattle.model_wire.specs.Call.{Item}
use Rattle.model_wire.specs.Fits.{bytes_in, most_bytes}

-- how many bytes more it may have beside these items
abbrev pub room_beside : List Item → ℕ
room_beside items = most_bytes - sum (map bytes_in items)
