-- What the outside tells and answers, in code.
use Rattle.std.specs.Prelude.{ℕ, ◌+◌, Bool, false, [], ◌∷◌, ◌++◌, bytes_eq}
use Rattle.std.specs.Fmt.{decimal}
use Rattle.model_value.specs.Value.{Value, Bytes}
use Rattle.model_dgram.specs.Texts as plain
use Rattle.model_dgram.specs.Endpoints.{Endpoints, fresh}
use Rattle.aio_dgram.specs.declared.datagram.Came.{Came}

-- a datagram that came
abbrev pub came_as : Came → plain.Came
came_as it = record { endpoint = it.endpoint; datagram = record { port = it.port; bytes = it.bytes.now } }

-- a number, as it is written
abbrev pub is_decimal : ℕ → Value → Bool
is_decimal number (Bytes bytes) = bytes_eq bytes (decimal number)
is_decimal number _ = false

-- an endpoint more is open
abbrev pub one_more : Endpoints → Endpoints
one_more kept = record kept { opened = kept.opened + 1; endpoints = kept.endpoints ++ (kept.opened, fresh) ∷ [] }
